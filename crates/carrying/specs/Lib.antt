-- The carrying coordinates of a parameter.
pub mod Carrying
pub mod Sentences
