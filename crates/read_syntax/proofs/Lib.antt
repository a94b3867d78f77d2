pub mod Held
pub mod Going
