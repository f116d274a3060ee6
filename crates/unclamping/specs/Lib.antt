-- Unclamping a curve at its right end: what it gives, when it is refused, and the same told over all entries.
pub mod Unclamping
pub mod Sentences
