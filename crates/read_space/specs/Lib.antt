pub mod Space
pub mod Fit
