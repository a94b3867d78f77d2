pub mod Indexes
pub mod Texts
