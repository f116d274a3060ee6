-- The check of the curve that stands in bytes, and what a reader of bytes tells of them.
pub mod StoredNumber
pub mod Told
