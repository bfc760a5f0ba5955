-- What the proofs of this crate share.

-- numbers stored one after the other
pub mod Storing
