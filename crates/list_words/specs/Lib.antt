pub mod Hits
pub mod HitLaws
pub mod RowsAbove
pub mod Kept
pub mod Listed
pub mod Answers
