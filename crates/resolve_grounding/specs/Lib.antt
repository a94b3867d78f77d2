pub mod Whole
pub mod Listed
pub mod Groups
