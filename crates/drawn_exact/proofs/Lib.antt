-- Why the pieces that are drawn are the curve.
pub mod SpanLaws
pub mod DrawnLaws
