-- Reading and writing undo each other: the proofs.
pub mod StorableLaws
pub mod AnswerLaws
pub mod RecordTrip
pub mod JobTrip
