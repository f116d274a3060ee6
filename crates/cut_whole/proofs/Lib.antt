-- Laws of cutting a curve, and curves worked by hand.
pub mod EachLaws
pub mod ClampedLaws
mod JudgedLaws
mod SpanLaws
mod LackingLaws
mod EndsLaws
mod CountLaws
mod FullLaws
mod OrderLaws
mod ValueLaws
pub mod KnotLaws
mod OwnLaws
mod NumberLaws
pub mod SentenceLaws
mod Controls
