-- Inserting a knot: what it gives, what it asks, when it is refused, and the same told over all entries.
pub mod Insertion
pub mod Standing
pub mod Judged
pub mod Sentences
