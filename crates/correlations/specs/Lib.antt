pub mod Folding
pub mod FoldIs
pub mod Wrapped
pub mod Fits
