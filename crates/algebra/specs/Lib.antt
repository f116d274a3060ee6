-- Arithmetic that the exact curve is stated in: bare operations, ordered fields and commutative rings over them.
pub mod Operations
pub mod OrderedField
pub mod Ring
