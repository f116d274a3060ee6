-- What the exports hand back.
pub mod PlaceLaws
pub mod HandsBackLaws
pub mod ReadingLaws
pub mod SpansLaws
