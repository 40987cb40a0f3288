pub mod Operator
pub mod OperatorKnows
pub mod OneForm
