-- The contract of unclamping the right end: its answer and its lent lists.
pub mod Answer
