pub mod Entries
pub mod Lists
pub mod Admitting
pub mod Judging
