-- Laws of writing path data.
pub mod PartLaws
pub mod StepLaws
pub mod MeasureLaws
pub mod WriteLaws
pub mod OutcomeLaws
pub mod CopyLaws
mod EndLaws
mod WorkLaws
