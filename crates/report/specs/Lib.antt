-- The text of the program, a part at a time.
pub mod Part
