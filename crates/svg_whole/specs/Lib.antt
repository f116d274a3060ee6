-- What is promised of a curve's path data, and what the call answers.
pub mod Sentences
pub mod Outcome
