-- A burst in a work list: what is kept of it and how it is counted, as definitions and as sentences.
pub mod Kept
pub mod Sentences
