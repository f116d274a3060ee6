-- The contract of removing a knot: when it is refused, what it answers and leaves, and its rows as sentences.
pub mod Outcome
pub mod Sentences
