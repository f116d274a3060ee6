-- Laws of inserting a knot.
pub mod OrderLaws
pub mod MeanLaws
pub mod EntryLaws
pub mod PartLaws
pub mod SpanLaws
pub mod KnotLaws
pub mod QuotientLaws
pub mod KnownLaws
pub mod WholeLaws
pub mod PointLaws
pub mod CheckedLaws
pub mod JudgedLaws
pub mod PassLaws
pub mod ResultLaws
pub mod SentenceLaws
mod Controls
