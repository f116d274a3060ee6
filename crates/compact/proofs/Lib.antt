-- Laws of the compaction call.
pub mod OutcomeLaws
pub mod SentenceLaws
