-- What the exported calls leave in the lists and single numbers lent to them.
pub mod Places
pub mod Outcomes
pub mod Answered
