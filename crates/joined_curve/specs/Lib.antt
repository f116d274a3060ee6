-- The curve that is taken from pieces.
pub mod Curve
pub mod Sentences
