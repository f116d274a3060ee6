-- Laws of the numbers of a right end.
pub mod SizeLaws
pub mod EndLaws
