-- Proofs of the crate `fromtext`.

-- one law for each way through the call
pub mod Judging
