pub mod Canonical
pub mod Numbers
pub mod Print
pub mod Lines
