-- Laws of the lines on a clamp.
pub mod CountLaws
pub mod ListedLaws
pub mod ClampPartLaws
