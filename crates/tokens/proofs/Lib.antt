pub mod Classes
pub mod Runs
pub mod Steps
pub mod Numbers
pub mod Firsts
pub mod Views
pub mod Scans
pub mod Spelling
