pub mod Arity
pub mod Building
