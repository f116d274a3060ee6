-- Laws of the joined curve.
pub mod CurveLaws
pub mod GridLaws
pub mod KnotLaws
pub mod PointLaws
pub mod SentenceLaws
mod PutLaws
mod GrowthLaws
mod Controls
