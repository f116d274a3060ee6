-- The span of a parameter, and the domain.
pub mod Span
pub mod Sentences
