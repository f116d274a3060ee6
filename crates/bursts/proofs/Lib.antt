-- Why bursts are read as all of them joined.
pub mod HeldLaws
pub mod JoinedLaws
pub mod OutcomeLaws
pub mod Controls
