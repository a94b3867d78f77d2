pub mod Holding
pub mod Standing
pub mod Sources
pub mod Bringing
pub mod Naming
