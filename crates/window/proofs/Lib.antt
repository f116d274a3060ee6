-- A knot's window against the whole curve.
pub mod ClosedLaws
pub mod WriteLaws
pub mod LocalLaws
