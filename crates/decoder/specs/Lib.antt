pub mod Serving
pub mod Answers
pub mod Isolation
pub mod ScoreRange
