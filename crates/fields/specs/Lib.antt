-- How numbers and fields are bytes, and what stands at a place in bytes.
pub mod Bytes
pub mod Places
