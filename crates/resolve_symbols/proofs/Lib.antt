pub mod Cut
pub mod Lets
pub mod Builtins
pub mod Tests
pub mod Brings
pub mod Sources
