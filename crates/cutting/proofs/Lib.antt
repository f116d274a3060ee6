-- Laws of cutting a curve.
pub mod EachLaws
pub mod FourLaws
