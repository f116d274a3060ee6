-- What a curve on one span tells of its control numbers.
pub mod SpanPoints
