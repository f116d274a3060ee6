-- The exact point of a curve that is given by lists of whole numbers.
pub mod ExactPoint
pub mod ExactCurve
