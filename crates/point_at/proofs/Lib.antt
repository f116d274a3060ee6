-- The sentences about the point call's answer, and points worked by hand.
pub mod SentenceLaws
mod Controls
