-- Laws of rows.
pub mod RowLaws
pub mod StepLaws
mod ExactLaws
