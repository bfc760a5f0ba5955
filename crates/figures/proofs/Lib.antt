-- What the proofs of this crate share.

-- the run program's line, way by way
pub mod Lines
-- its input, way by way
pub mod Inputs
-- its figures, way by way
pub mod Compares
