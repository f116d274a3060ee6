-- Laws of feeding.
pub mod BurstLaws
pub mod EndLaws
pub mod SentenceLaws
pub mod Controls
