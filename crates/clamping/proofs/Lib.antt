-- Laws of clamping.
pub mod BoundLaws
mod CountLaws
pub mod EndSpanLaws
pub mod PartLaws
pub mod KnotLaws
pub mod NumberLaws
pub mod ClampedLaws
pub mod WholeLaws
mod AxisStayLaws
pub mod StayLaws
pub mod SentenceLaws
mod Controls
