pub mod Wholes
pub mod Names
pub mod Groups
pub mod Features
pub mod Sizes
