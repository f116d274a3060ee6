-- Whole numbers with a sign: when one goes into another, and a number as two natural ones.
pub mod Division
pub mod Parts
