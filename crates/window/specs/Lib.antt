-- A knot's window: what its removal looks at, and what it answers there.
pub mod Window
