-- Laws of the parts that insert a knot.
pub mod OccurrenceLaws
pub mod PositionLaws
