pub mod Sizes
pub mod Groups
