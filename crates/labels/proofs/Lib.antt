-- What the proofs of this crate share.

-- one law for each way through the walks that count labels
pub mod Counting
-- and through those that fill the label map
pub mod Filling
-- what a filled label map holds
pub mod Mapping
-- one law for each way through the gatherer of variables
pub mod Gathering
