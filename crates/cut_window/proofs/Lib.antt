-- Laws of cutting at a span.
pub mod KnotLaws
pub mod AxisLaws
pub mod StepLaws
