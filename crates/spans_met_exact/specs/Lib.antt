-- What it means that every cut is reported.
pub mod Crossing
