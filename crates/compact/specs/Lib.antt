-- The contract of compacting a curve, and its rows as sentences.
pub mod Outcome
pub mod Sizes
pub mod Sentences
