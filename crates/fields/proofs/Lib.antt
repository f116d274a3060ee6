-- Laws of numbers, lists and fields in bytes.
pub mod PlaceLaws
pub mod LoopLaws
mod Controls
