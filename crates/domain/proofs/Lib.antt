-- Laws of what a call at a parameter is refused with.
pub mod ParameterLaws
pub mod OutsideLaws
