-- Laws of the parts of unclamping.
pub mod KnotLaws
pub mod PointLaws
