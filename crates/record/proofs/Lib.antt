-- Laws of writing and reading a record.
pub mod WriteLaws
pub mod ReadLaws
pub mod SentenceLaws
mod Controls
