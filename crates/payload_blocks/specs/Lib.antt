pub mod Payloads
pub mod Numerals
pub mod PayloadBlocks
pub mod InputsInOrder
pub mod CorrelationSize
pub mod WordFits
pub mod BlockFits
