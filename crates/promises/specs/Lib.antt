-- What Tsaghnobir promises.
pub mod Promises
