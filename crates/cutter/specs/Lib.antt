-- The cutter's radius in a job: the bytes that it has, and how they are judged and read.
pub mod Radius
pub mod Standing
