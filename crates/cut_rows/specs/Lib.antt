-- Rows: one axis of a span that becomes a piece.
pub mod Row
