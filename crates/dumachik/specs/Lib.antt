pub mod Scan
pub mod Joined
pub mod Told
