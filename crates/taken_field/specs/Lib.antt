-- How one field of bytes is judged.
pub mod Taking
