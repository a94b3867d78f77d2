pub mod Entries
pub mod Judging
pub mod Arguments
pub mod Modes
pub mod Others
