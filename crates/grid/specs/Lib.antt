-- The curve on the grid: its limits, the tests of the check, and the check's answer.
pub mod Limits
pub mod Rows
pub mod Again
pub mod Check
pub mod Sizes
