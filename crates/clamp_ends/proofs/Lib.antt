-- Laws of the clamping call.
mod NumberLaws
mod WholeLaws
mod KnotLaws
mod MendLaws
mod CutLaws
pub mod AnswerLaws
