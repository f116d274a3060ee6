-- The text of some bytes, and why the program writes it.
pub mod Text
pub mod Program
