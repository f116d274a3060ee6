-- Laws of inserting values one after the other, and of the meeting points of a joined curve.
pub mod InsertingLaws
mod ListLaws
mod QuotientLaws
mod AxisLaws
mod StepLaws
mod MeanLaws
pub mod MeetingLaws
mod Controls
