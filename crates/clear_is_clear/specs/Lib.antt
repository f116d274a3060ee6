-- What the words of the text say of the exact curve.
pub mod Clear
