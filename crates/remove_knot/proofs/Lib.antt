-- Laws of the removal call.
pub mod OutcomeLaws
pub mod SentenceLaws
