-- The closed box round some control points, an axis at a time, and a rectangle widened.
pub mod Meeting
pub mod Widening
pub mod Sentences
