-- Laws of a curve's path data.
pub mod DrawLaws
pub mod TextLaws
pub mod LongestLaws
pub mod OutcomeLaws
mod Controls
