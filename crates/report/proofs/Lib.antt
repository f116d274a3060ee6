-- Laws of the parts of the text.
pub mod PartLaws
