-- Laws of the check's tests.
pub mod CheckLaws
pub mod CountLaws
pub mod EntryLaws
pub mod FlagLaws
pub mod OrderLaws
pub mod RepeatLaws
pub mod InnerLaws
pub mod ThenLaws
pub mod SizeLaws
mod Controls
