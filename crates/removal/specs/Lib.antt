-- Removing a knot: the polygon that is asked for, one axis of it, what a call comes to, and the same told over all entries.
pub mod Removal
pub mod Axis
pub mod Polygon
pub mod Judged
pub mod Outcome
pub mod Sentences
