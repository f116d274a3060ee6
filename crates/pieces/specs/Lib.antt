-- A walk over the pieces of a curve, and what a step of it hands out.
pub mod Loaded
pub mod Walk
