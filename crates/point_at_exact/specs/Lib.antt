-- What it means that a computed coordinate is near an exact one.
pub mod NearExact
pub mod PointNear
