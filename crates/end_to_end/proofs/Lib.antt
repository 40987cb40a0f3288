pub mod EndToEndExamples
pub mod SampledBlock
pub mod DecodedResult
