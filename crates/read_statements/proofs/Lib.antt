pub mod Whole
pub mod Texts
pub mod Keeping
