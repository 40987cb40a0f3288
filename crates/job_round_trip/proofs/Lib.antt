pub mod DecodedAlike
