pub mod Shorter
pub mod Forgotten
pub mod Printed
pub mod Offsets
