-- Laws of one pass in working lists.
pub mod FrontLaws
pub mod FirstLaws
pub mod GrowLaws
