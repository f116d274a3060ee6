-- Why the program writes the text of its input.
mod Controls
pub mod DrawnLaws
pub mod ReadLaws
pub mod UniqueLaws
