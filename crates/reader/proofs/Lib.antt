-- What the proofs of this crate share.

-- one law for each way through rules 5 to 8, one after the other
pub mod Verdicts
