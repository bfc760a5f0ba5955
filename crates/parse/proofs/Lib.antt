-- What the proofs of this crate share.

-- where chains of readers end
pub mod Chains
-- one law for each way through the reader of expressions
pub mod Expressions
-- and through that of several
pub mod Values
-- and through that of an instruction without blocks
pub mod Plain
-- and through those of blocks and instructions
pub mod Blocks
