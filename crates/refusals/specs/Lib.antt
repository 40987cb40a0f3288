pub mod Number
pub mod Places
pub mod Parts
