-- Proofs of the crate `printer`.

-- one law for each way through the call
pub mod Printing
