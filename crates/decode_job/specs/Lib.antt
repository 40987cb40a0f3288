pub mod ProgramOutput
pub mod Records
pub mod Sample
