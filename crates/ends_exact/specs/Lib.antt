-- What is promised of clamped and unclamped ends.
pub mod Clamping
pub mod Unclamping
