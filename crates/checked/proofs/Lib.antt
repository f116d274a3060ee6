-- What each test of the check says, as facts and as the sentence of its row.
pub mod TestLaws
pub mod CountLaws
pub mod RisingLaws
pub mod EndLaws
pub mod OccurrenceLaws
pub mod GridLaws
pub mod CurveLaws
pub mod CheckedLaws
pub mod SentenceLaws
