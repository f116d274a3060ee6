-- Fractions as pairs of whole numbers, their arithmetic, and their order by cross-multiplying.
pub mod Fraction
pub mod Order
