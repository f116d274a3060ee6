-- What the contracts of the exports to C settle: the statements.
pub mod Exports
