-- Laws of digits and of text that is put into a list.
pub mod Controls
pub mod DecimalLaws
pub mod PutLaws
pub mod ValueLaws
mod LastFirstLaws
