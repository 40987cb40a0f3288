pub mod Put
pub mod Turns
