pub mod EndToEnd
pub mod EndToEndExamples
pub mod TestLoad
pub mod SampledBlock
pub mod DecodedResult
