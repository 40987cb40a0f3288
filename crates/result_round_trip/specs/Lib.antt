pub mod FourBytes
pub mod ScoreOrder
pub mod PackedBits
pub mod Operator
pub mod OperatorKnows
pub mod WrittenHead
pub mod ReadBack
pub mod OneForm
