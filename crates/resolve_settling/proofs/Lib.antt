pub mod Answering
pub mod Grounds
pub mod Measured
pub mod Settling
pub mod Grouping
