-- A curve's three lists, and handing them over into lent ones.
pub mod Lists
pub mod HandingOver
pub mod Sentences
