pub mod Line
pub mod Effects
pub mod Stretches
pub mod Notes
pub mod Ground
