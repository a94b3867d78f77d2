pub mod Endings
pub mod Fitting
