pub mod Forcing
pub mod Staying
pub mod Sifting
pub mod Settling
pub mod Listed
pub mod Formed
pub mod Listing
pub mod Uniting
