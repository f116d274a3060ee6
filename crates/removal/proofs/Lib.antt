-- Laws of removing a knot.
pub mod EquationLaws
pub mod SideLaws
pub mod WithoutLaws
pub mod PolygonLaws
pub mod SentenceLaws
pub mod JudgedLaws
pub mod OutcomeLaws
