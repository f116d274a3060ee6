-- Laws of parts put one behind the other.
pub mod PutLaws
