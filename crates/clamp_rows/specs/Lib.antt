-- What is read of an end of a curve, and what the rows at it ask.
pub mod Near
pub mod Ends
