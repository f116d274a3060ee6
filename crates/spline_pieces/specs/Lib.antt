-- The pieces between spline points, and what is known of the lists they are taken from.
pub mod Pieces
pub mod Standing
pub mod Sentences
