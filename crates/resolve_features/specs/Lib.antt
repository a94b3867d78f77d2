pub mod Stays
pub mod Terms
