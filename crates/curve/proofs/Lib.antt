-- Three lists that are equal, room, what is handed over, and the sentences about them.
pub mod ListLaws
pub mod RoomLaws
pub mod HandingLaws
pub mod SentenceLaws
