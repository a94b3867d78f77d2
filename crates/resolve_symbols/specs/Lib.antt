pub mod Lets
pub mod Sources
pub mod Brings
