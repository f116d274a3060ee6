-- Spline points, and what the joining call answers.
pub mod SplinePoints
pub mod Answer
pub mod Sentences
