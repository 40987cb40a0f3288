pub mod ExtractCall
