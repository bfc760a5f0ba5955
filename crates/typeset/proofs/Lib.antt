-- Proofs of the crate `typeset`.

-- one law for each way to set bytes
pub mod Setting
