-- Verdict and value fix a reader's answer.
pub mod ToldLaws
mod Controls
