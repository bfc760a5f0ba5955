-- What the proofs of this crate share.

-- deciding a step, way by way
pub mod Deciding
-- passing the arguments of a call
pub mod Passing
-- deciding a select
pub mod Selecting
