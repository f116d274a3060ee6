-- Why fractions are the rational numbers.
pub mod IntegerLaws
pub mod SignLaws
pub mod FractionLaws
pub mod Rational
pub mod ClassLaws
pub mod Controls
pub mod WholeLaws
