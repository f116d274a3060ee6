-- A span's carrying numbers are fixed by the curve on it: over any ordered field, in any degree.
pub mod Polynomials
pub mod RootLaws
pub mod ExchangeLaws
pub mod SlopeLaws
pub mod ZeroLaws
pub mod SpanPointLaws
