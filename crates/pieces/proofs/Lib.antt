-- Laws of a walk over the pieces.
pub mod LoadedLaws
pub mod RunLaws
pub mod ValueLaws
pub mod TurnLaws
pub mod PieceLaws
pub mod StayLaws
pub mod BelowLaws
pub mod StartLaws
pub mod WalkLaws
