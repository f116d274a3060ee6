-- Laws of removing a knot from both axes.
pub mod OutcomeLaws
