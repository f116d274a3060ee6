-- Laws of copying.
pub mod CopyLaws
