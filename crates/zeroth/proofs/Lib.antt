-- What the proofs of this crate share.

-- and through procedure 0
pub mod Rounding
