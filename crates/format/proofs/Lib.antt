-- Laws of the format: bytes that entries have, and entries that bytes have.
pub mod EntryLaws
pub mod InjectiveLaws
pub mod SizeLaws
pub mod Controls
