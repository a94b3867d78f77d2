pub mod Examples
pub mod SymbolExamples
pub mod CallExamples
pub mod Laws
pub mod Outputs
