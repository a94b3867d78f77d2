pub mod Word
pub mod Label
pub mod Table
pub mod Row
pub mod Likely
