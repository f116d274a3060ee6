-- Why clamping and unclamping keep the exact curve, and are the only polygons that do.
pub mod ShareLaws
pub mod EntryLaws
pub mod EndLaws
pub mod PartLaws
pub mod MovedLaws
pub mod AxisLaws
pub mod ClampLaws
pub mod SolvedLaws
pub mod OpenLaws
pub mod UnclampAxisLaws
pub mod OpenKnotLaws
pub mod UnclampLaws
pub mod UnclampedLaws
pub mod BackLaws
mod Controls
