-- What the contracts of the exports to C settle: the proofs.
pub mod OutcomeLaws
pub mod PlaceLaws
pub mod CarryingLaws
pub mod Controls
pub mod FeedLaws
