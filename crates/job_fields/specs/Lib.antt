pub mod Laid
pub mod Optional
pub mod SoftAt
