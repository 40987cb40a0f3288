pub mod BitText
pub mod Decimal
pub mod Words
