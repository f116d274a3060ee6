-- Laws of path data.
pub mod Controls
pub mod LanguageLaws
pub mod GrammarLaws
pub mod NumberLaws
pub mod TextLaws
pub mod LengthLaws
pub mod LongestLaws
