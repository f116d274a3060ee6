-- Why inserting a knot keeps the exact curve.
pub mod SpanRuleLaws
pub mod InsertedLaws
pub mod InsertionLaws
pub mod SameLaws
pub mod RemovalLaws
pub mod CompactionLaws
mod Controls
