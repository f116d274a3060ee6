-- Laws of judging.
pub mod JudgingLaws
pub mod ChainLaws
pub mod AnswerLaws
mod Controls
