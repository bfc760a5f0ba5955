-- Proofs of the crate `lines`.

-- one law for each way to show arguments and instructions that hold no block
pub mod Plainly
-- one law for each way to show a block
pub mod Nested
