pub mod Ready
pub mod Entries
pub mod Answers
