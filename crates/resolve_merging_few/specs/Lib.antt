pub mod Sought
pub mod Sieves
pub mod Scans
pub mod Passes
pub mod Listing
pub mod Merging
