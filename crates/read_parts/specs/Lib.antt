pub mod Apart
pub mod Meaning
