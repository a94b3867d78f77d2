pub mod Writing
pub mod Digits
pub mod Going
pub mod Answering
