-- Why every cut is reported.
pub mod Controls
pub mod CrossingLaws
pub mod DistanceLaws
pub mod MeetsLaws
