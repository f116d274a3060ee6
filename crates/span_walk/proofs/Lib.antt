-- Laws of the walk over the spans, of the lists that receive their knots, and of the sentences about both; spans worked by hand.
pub mod KeepLaws
pub mod ListedLaws
pub mod SpanListLaws
pub mod SentenceLaws
pub mod CountLaws
mod Controls
