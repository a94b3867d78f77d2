pub mod Examples
pub mod Passing
pub mod Exact
pub mod Places
pub mod GroundPasses
