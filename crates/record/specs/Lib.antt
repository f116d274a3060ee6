-- What writing and reading a record answer.
pub mod Writing
pub mod Reading
pub mod Sentences
