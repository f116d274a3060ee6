-- What is promised of the pieces that are drawn of any curve.
pub mod Drawn
