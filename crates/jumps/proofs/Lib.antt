-- What the proofs of this crate share.

-- one law for each way through the walks that fill the jump table
pub mod Jumping
-- the jump table, body by body
pub mod JumpingBodies
