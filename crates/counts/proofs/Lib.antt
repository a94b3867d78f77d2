pub mod Digits
pub mod CountAfter
pub mod Decimal
pub mod Examples
