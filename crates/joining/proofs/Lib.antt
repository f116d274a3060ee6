-- Laws of joining.
pub mod RisingLaws
pub mod StandingLaws
pub mod RoomLaws
pub mod AnswerLaws
pub mod SentenceLaws
mod Controls
