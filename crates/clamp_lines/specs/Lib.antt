-- All lines on a clamp, and how long they can be.
pub mod Places
pub mod ClampPart
