-- What the proofs of this crate share: one law for each way through its code.

-- bytes and numbers
pub mod Places
-- names of expressions
pub mod Naming
-- numbers and leaves as bytes
pub mod Leaves
-- operators
pub mod Operators
-- lines that hold no block
pub mod Arguing
-- instructions and blocks
pub mod Nesting
-- locations
pub mod Framing
-- heads and locals
pub mod Heading
-- a whole text
pub mod Assembling
