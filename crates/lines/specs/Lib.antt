-- What the program prints, line by line.
pub mod Lines
