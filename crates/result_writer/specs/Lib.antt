pub mod Given
pub mod Turns
