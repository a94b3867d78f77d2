pub mod Bytes
pub mod Entries
pub mod Labels
pub mod Parts
