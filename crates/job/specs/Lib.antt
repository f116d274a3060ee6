-- A job: the bytes that it has, how they are judged, and what reading one answers and leaves.
pub mod JobFormat
pub mod JobJudging
pub mod JobReading
pub mod StoredJob
pub mod Sentences
