-- A fault is one, and shuts out that the bytes are a file; which faults a field has that comes first; kinds that are made of such fields.
pub mod OneFaultLaws
pub mod WithinLaws
pub mod FirstFieldLaws
pub mod FieldFaultLaws
pub mod ChainLaws
pub mod LeftOverLaws
