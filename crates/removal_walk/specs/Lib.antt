-- Removing a knot: what the parts that run answer.
pub mod Walk
