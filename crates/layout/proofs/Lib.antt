-- Laws of judging bytes, and that judging finds exactly the records.
pub mod SplitLaws
pub mod RecordLaws
pub mod WholeLaws
pub mod StoredLaws
pub mod Controls
