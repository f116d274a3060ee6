-- The contract of writing a curve as path data.
pub mod Svg
pub mod Measure
