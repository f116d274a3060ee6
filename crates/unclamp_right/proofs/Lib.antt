-- Laws of the unclamping call.
pub mod StandingLaws
pub mod AnswerLaws
