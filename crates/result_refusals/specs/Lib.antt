pub mod Shape
pub mod Turns
