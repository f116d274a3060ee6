-- Laws of unclamping.
pub mod EntryLaws
pub mod AxisLaws
pub mod WidthLaws
pub mod EquationLaws
pub mod JudgedLaws
pub mod OpenLaws
pub mod ResultLaws
pub mod IndexLaws
pub mod SentenceLaws
mod Controls
