pub mod Items
pub mod Forms
pub mod Fits
pub mod Admission
pub mod Faults
