-- What the proofs of this crate share.

-- and through the copy of an expression
pub mod Copying
-- and through the pieces of generated code that do not read the source
pub mod Coding
-- and through the code of assign, read and write
pub mod Plainly
-- and through the layout's code
pub mod Placing
