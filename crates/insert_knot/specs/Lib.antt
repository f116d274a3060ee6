-- The contract of inserting a knot: its answer and its lent lists.
pub mod Answer
