-- What lent result lists hold after a call.
pub mod Lent
pub mod Sentences
