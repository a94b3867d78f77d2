pub mod Again
pub mod Collected
pub mod Taken
