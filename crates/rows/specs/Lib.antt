-- How the rows of the triangle stand in arrays.
pub mod Row
