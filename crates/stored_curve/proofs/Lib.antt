-- What room the lists of a stored curve need.
pub mod RoomLaws
