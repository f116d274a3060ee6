-- Insertions at one span of a curve that is being cut.
pub mod Step
