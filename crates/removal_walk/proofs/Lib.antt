-- Laws of the parts that remove a knot on one axis.
pub mod BitsLaws
pub mod FarLaws
pub mod CopyLaws
pub mod WalkLaws
pub mod SpanRules
