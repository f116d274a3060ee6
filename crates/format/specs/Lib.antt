-- The bytes that a curve's lists have, and where each field stands in them.
pub mod Format
pub mod RecordPlaces
