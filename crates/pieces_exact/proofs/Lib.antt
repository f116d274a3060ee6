-- Laws of the pieces of a curve, and a curve worked by hand.
pub mod BezierLaws
pub mod PointLaws
pub mod KeptLaws
mod SpanLaws
pub mod PieceLaws
mod Controls
