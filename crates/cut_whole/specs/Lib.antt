-- What cutting gives, told over whole curves.
pub mod Sentences
