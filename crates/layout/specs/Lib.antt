-- How a reader judges bytes field by field, and which lists stand in sound bytes.
pub mod Judging
pub mod StoredCurve
