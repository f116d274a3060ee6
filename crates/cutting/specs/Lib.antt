-- Cutting a curve at its knots: the insertions that it takes, when they are refused, and the pieces.
pub mod Cutting
pub mod Pieces
