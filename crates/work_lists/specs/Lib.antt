-- One pass in work lists, and what it leaves handed over.
pub mod Outcome
