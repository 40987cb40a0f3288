pub mod Answer
pub mod Turns
pub mod PackedPart
