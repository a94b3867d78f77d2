pub mod Records
pub mod Words
pub mod Stored
