-- What the proofs of this crate share.

-- a table that may be run
pub mod Running
