-- Laws of the radius' field.
pub mod FieldLaws
pub mod Controls
