pub mod WrittenBack
pub mod NeverLonger
pub mod OneForm
pub mod DecodedAlike
pub mod WrittenBytes
