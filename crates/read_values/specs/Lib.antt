pub mod Lists
pub mod Value
pub mod Calls
