-- The facts of a checked curve, and each row of refusal as a sentence over all entries.
pub mod Checked
pub mod Along
pub mod Sentences
