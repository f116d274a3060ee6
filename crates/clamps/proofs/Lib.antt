-- Laws of the clamps behind a record.
pub mod TailLaws
pub mod SideLaws
pub mod ClampLaws
pub mod SentenceLaws
pub mod Controls
pub mod RowLaws
