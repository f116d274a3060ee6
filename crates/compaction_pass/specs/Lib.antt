-- One pass of compaction in working lists.
pub mod Outcome
