pub mod Claims
pub mod Decimal
