pub mod Below
pub mod Storing
pub mod Telling
