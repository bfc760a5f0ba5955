-- What the proofs of this crate share.

-- and through the code of an atomic block
pub mod Blocks
-- and through the code of a label
pub mod Labels
-- what the label map says of the source's code
pub mod Nodes
-- one law for each way through the procedures that simulate the labels
pub mod Simulating
