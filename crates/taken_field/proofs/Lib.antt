-- Laws of judging one field.
pub mod TakeLaws
