-- A job in bursts: what a burst leaves, which bytes are held, what the end answers, and what a burst does as sentences.
pub mod Burst
pub mod Ending
pub mod Sentences
