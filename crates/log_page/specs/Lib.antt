pub mod Steps
pub mod Reading
pub mod Fronts
pub mod NoSooner
pub mod Printed
pub mod Counts
pub mod Made
pub mod Stop
