-- Proofs of the crate `phrases`.

-- one law for each way to show an expression
pub mod Leaves
