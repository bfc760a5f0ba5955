-- What the proofs of this crate share.

-- and through the whole table
pub mod Tabling
-- and through the call
pub mod Answering
