-- Laws on lists that are lent: their parts, a result over a list, what it holds entry by entry, and a result stored entry by entry.
pub mod ListLaws
pub mod OverLaws
pub mod SentenceLaws
pub mod StoreLaws
