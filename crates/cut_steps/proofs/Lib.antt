-- Laws of insertions at one span.
pub mod InsertLaws
pub mod FillLaws
