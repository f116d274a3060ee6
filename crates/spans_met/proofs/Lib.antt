-- Laws of the list call's answer, and what it leaves.
pub mod AnswerLaws
pub mod OutcomeLaws
pub mod SentenceLaws
