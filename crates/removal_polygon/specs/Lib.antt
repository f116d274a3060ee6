-- Removing a knot from both axes.
pub mod Outcome
