-- The digits of a number, the codes of letters, text that is put into a list, and text in quotes.
pub mod Decimal
pub mod Letters
pub mod Put
pub mod Quoted
