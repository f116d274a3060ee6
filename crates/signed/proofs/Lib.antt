-- Laws on whole numbers with a sign: their two parts, order, size, multiples, the types that hold them, and division.
pub mod PartLaws
pub mod OrderLaws
pub mod SizeLaws
pub mod BoundLaws
pub mod WidthLaws
pub mod FitLaws
pub mod CastLaws
pub mod ScaleLaws
pub mod DivisionLaws
pub mod ReadLaws
pub mod DifferenceLaws
