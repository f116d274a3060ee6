-- Laws of rings and ordered fields, and the equation solver.
pub mod RingLaws
pub mod Expressions
pub mod Solver
pub mod IntegerRing
pub mod FieldLaws
pub mod OrderLaws
pub mod Controls
