pub mod Join
pub mod Follow
pub mod Shaped
