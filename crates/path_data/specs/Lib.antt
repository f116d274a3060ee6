-- Path data: its letters, its text, its grammar, and what is promised of the text.
pub mod Letters
pub mod Text
pub mod Language
pub mod Grammar
pub mod Sentences
