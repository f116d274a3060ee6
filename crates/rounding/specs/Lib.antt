-- A binary64 number as a fraction.
pub mod FloatFraction
