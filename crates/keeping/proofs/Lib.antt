-- Laws of keeping a burst.
pub mod KeptLaws
pub mod SentenceLaws
pub mod Controls
