-- Which parameters a call refuses.
pub mod Parameter
pub mod Sentences
