-- Clamped ends over any arithmetic: the rows of means that give the points at an end, the same by inserting knots, and both ends at once.
pub mod EndRows
pub mod Steps
pub mod BothEnds
