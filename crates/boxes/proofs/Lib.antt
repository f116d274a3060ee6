-- Laws of boxes.
pub mod MeetingLaws
pub mod WideningLaws
pub mod SentenceLaws
pub mod NearLaws
