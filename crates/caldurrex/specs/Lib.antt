pub mod Choice
pub mod Fields
pub mod CountFields
