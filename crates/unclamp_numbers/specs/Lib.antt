-- What the numbers of a right end ask.
pub mod Standing
