-- Clamping a curve's ends: the rows of an end, the clamped curve, when it is refused, and the same told over all entries.
pub mod EndRows
pub mod Clamping
pub mod Sentences
