-- Laws of the carrying coordinates.
pub mod CarryingLaws
pub mod SentenceLaws
