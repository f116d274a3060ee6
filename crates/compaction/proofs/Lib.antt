-- Compaction: a pass has one result, and what it leaves.
pub mod PassLaws
pub mod OutcomeLaws
pub mod SentenceLaws
pub mod Controls
