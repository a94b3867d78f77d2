pub mod Bench
pub mod Calling
pub mod Packed
pub mod There
