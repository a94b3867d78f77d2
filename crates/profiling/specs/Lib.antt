pub mod Profile
pub mod Inside
pub mod Refused
