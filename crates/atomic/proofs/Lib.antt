-- What the proofs of this crate share.

-- carrying out a step of a thread, way by way
pub mod Carrying
-- an instruction of an atomic block, way by way
pub mod Inside
-- a block of an atomic block, and the whole of it
pub mod InsideBlock
