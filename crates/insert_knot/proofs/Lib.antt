-- Laws of the insertion call.
pub mod AnswerLaws
pub mod AskedLaws
mod Controls
