pub mod Laid
pub mod Rising
