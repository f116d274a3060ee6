-- Reading and writing undo each other: the statements.
pub mod RoundTrip
