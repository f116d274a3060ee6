-- The text of some bytes, and what the program is proved to write.
pub mod Text
pub mod Program
