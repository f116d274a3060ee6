-- Why "clear" is clear.
pub mod ClearLaws
pub mod Controls
pub mod LineLaws
pub mod PartLaws
pub mod SplitLaws
