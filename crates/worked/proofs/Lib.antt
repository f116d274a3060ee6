-- The theorem over the worked examples.
pub mod CompactionWorked
pub mod RemovalWorked
pub mod WorkedLaws
