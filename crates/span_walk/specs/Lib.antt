-- The spans of a curve whose boxes meet a rectangle, and the lists that receive their knots.
pub mod SpansMet
pub mod SpanLists
pub mod Sentences
