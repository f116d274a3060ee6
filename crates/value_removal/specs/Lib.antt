-- Removing a value from the front of a curve: curves in working lists.
pub mod Work
