-- What the proofs of this crate share.

-- one law for each way through rules 1 and 2
pub mod Trailers
-- through rule 3
pub mod Rule3
-- and through rule 4
pub mod Rule4
-- and through rules 1 to 4 together
pub mod Shaping
