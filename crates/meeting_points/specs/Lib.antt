-- Inserting values one after the other.
pub mod Inserting
