pub mod Lists
pub mod Kinds
