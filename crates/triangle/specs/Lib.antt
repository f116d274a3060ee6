-- The triangle as it is computed: its cell, its entries and the coordinate at its end.
pub mod FloatCell
pub mod FloatTriangle
