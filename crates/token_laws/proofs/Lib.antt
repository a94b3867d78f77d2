pub mod Fronts
pub mod Joining
pub mod Shapes
pub mod Spelled
pub mod Labels
