-- What two polygons with one exact curve have in common.
pub mod SamePolygon
