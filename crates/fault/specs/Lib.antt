-- The leftmost fault of bytes, for any kind of file that is made of fields; lone records as such a kind; and how bytes were judged.
pub mod Fault
pub mod Kinds
pub mod Verdict
pub mod Sentences
pub mod Told
