pub mod Shape
pub mod Conditions
