-- The examples worked by hand.
pub mod Case
pub mod Worked
