-- Laws of the span rule, its sentences, and spans worked by hand.
pub mod SpanLaws
pub mod SentenceLaws
mod Controls
