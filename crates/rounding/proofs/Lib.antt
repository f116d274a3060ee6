-- How far rounding moves one cell of the triangle, and a triangle of them.
pub mod RoundError
pub mod FloatUnits
pub mod SignedError
pub mod CellError
pub mod Ratio
pub mod CellNear
pub mod TriangleNear
pub mod Distance
pub mod Binary64
pub mod CellScale
pub mod Controls
pub mod WholeClass
pub mod RatioClass
pub mod FloatDistance
