-- Laws of pieces.
pub mod ThirdLaws
pub mod GridLaws
pub mod PieceLaws
pub mod SentenceLaws
mod Controls
