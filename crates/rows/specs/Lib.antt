pub mod Blocks
pub mod Trace
pub mod PrefixRows
pub mod Words
pub mod Scores
pub mod DecodedRows
