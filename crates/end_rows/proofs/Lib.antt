-- Clamping the ends of a curve keeps it, over any ordered field and in any degree, and the points are the rows of means.
pub mod StepKnots
pub mod EntryLaws
pub mod StepCurve
pub mod EndRowLaws
pub mod StepPoints
pub mod BothKnotLaws
pub mod BothEndLaws
