-- Laws of lines.
pub mod Controls
pub mod LengthLaws
pub mod LinesLaws
pub mod RoomLaws
