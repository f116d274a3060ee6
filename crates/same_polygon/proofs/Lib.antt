-- Why the curve determines its polygon.
pub mod ParameterLaws
pub mod AgreeLaws
pub mod PointLaws
pub mod PolygonLaws
mod Controls
