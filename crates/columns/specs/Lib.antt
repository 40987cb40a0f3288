pub mod Columns
pub mod Turns
