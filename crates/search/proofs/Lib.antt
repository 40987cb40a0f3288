pub mod FirstRow
pub mod Ceiling
pub mod ListSizes
pub mod CeilingExamples
pub mod CleanBlock
