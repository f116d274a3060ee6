-- Laws of a pass whose result is handed over.
pub mod OutcomeLaws
