pub mod Parts
pub mod Rounding
pub mod Product
pub mod Held
pub mod FineSteps
pub mod SoftOfPart
pub mod ExactValue
