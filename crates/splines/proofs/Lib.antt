-- The theory of B-spline curves over any ordered field, in any degree.
pub mod SumLaws
pub mod CurveLaws
pub mod SpanLaws
pub mod BasisLaws
pub mod TriangleLaws
pub mod HullLaws
pub mod CellLaws
pub mod BezierLaws
pub mod HermiteLaws
pub mod InsertedLaws
pub mod InsertionLaws
pub mod InsertedSpanLaws
