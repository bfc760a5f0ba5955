-- What the proofs of this crate share.

-- one law for each way through code inside an atomic block
pub mod Costing
-- and through the price of a step
pub mod Stepping
-- the prices of a label, and the call
pub mod Labelling
