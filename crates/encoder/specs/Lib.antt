pub mod EncodeCall
