-- The answer of the point call.
pub mod Point
pub mod Sentences
