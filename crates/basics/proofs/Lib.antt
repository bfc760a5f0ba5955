-- What the proofs of this crate share.

-- whole numbers of 32 bits, at 64
pub mod Wide
-- one law for each way through an operator
pub mod Ways
-- two's complement
pub mod Words
-- values written into a buffer
pub mod Buffers
