pub mod Digits
pub mod Answered
pub mod Effects
pub mod Walking
pub mod Notes
