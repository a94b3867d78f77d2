pub mod Count
pub mod Decimal
