-- Where judging finds a break, there is the leftmost fault: of a field, of a record and of a lone record.
pub mod ChainLaws
pub mod FaultLaws
pub mod LoneLaws
pub mod Controls
