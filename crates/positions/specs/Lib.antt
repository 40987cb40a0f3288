pub mod History
pub mod Own
pub mod Position
pub mod Running
