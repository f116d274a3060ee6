-- The contract of clamping both ends: its answer and its lent lists.
pub mod Answer
