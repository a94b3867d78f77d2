pub mod Reading
pub mod Names
pub mod Ranges
pub mod Further
pub mod Entries
