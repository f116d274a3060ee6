-- Laws of numbers that code reads.
pub mod NumberLaws
