pub mod Reading
pub mod Gathering
pub mod Bringing
pub mod Meaning
pub mod Refusing
