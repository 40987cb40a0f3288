pub mod Output
pub mod RowsText
pub mod Sample
