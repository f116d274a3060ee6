-- Compaction: one pass of removals, what a call comes to, and the same told over all entries.
pub mod Compaction
pub mod Outcome
pub mod Sentences
