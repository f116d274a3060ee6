-- The answer of the list call, and what it leaves.
pub mod Answer
pub mod Outcome
pub mod Sentences
