pub mod Packed
pub mod Few
