-- What the parts of unclamping ask and tell.
pub mod Standing
