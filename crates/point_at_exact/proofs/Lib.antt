-- The computed triangle against the exact point.
pub mod CellDifferences
pub mod EntryClass
pub mod CoordinateNear
pub mod Controls
pub mod PointNearLaws
