-- Laws of judging and reading a job.
pub mod JobFaultLaws
pub mod JobReadLaws
pub mod JobLayoutLaws
pub mod OneJobLaws
pub mod SentenceLaws
pub mod Controls
