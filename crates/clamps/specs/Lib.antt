-- The clamps of a job: their bytes, the clamps that stand in bytes, and how their fields are judged.
pub mod Clamp
pub mod Tail
pub mod Sentences
