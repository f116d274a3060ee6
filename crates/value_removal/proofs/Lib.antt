-- Laws of removing the newest value of a front.
pub mod PartLaws
pub mod TailLaws
pub mod TryLaws
pub mod ValueLaws
