-- Why the program writes the text of its input.
pub mod ClampLaws
pub mod Controls
pub mod ReadLaws
pub mod RoomLaws
pub mod TextLaws
pub mod UniqueLaws
