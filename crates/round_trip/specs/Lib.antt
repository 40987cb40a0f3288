pub mod RoundTrip
pub mod PayloadSize
