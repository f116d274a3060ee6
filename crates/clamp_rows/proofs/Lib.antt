-- Laws of the rows at an end.
mod SizeLaws
mod RowLaws
mod GatheringLaws
pub mod SameLaws
