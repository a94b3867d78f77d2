pub mod Naming
pub mod Pairs
pub mod Heads
pub mod Places
pub mod Meaning
pub mod Examples
