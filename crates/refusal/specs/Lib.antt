-- The numbers of refusal, and how a call judges one after another.
pub mod Numbers
pub mod Judging
pub mod Chain
pub mod Answers
