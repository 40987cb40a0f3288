pub mod Lines
pub mod Lead
pub mod Page
pub mod Heard
pub mod LineLength
pub mod Sample
pub mod PackedBits
pub mod WrittenPage
