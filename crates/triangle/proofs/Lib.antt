-- Laws of whole differences and of the computed triangle, and cells worked by hand.
pub mod DifferenceLaws
pub mod FloatTriangleLaws
mod Controls
