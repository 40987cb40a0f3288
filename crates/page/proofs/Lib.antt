pub mod LineLength
pub mod PackedBits
pub mod WrittenPage
pub mod SameEntries
