pub mod FullSize
pub mod Places
pub mod Values
pub mod ValueExamples
pub mod Calls
