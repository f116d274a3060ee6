-- Every promise, proved.
pub mod Proved
