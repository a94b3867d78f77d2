pub mod Words
pub mod Families
pub mod Finding
pub mod Distinct
pub mod Tables
pub mod Scanning
pub mod OneKeyword
