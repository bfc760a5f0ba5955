-- The proofs of the quick way.

-- the operators on two words
pub mod Operating
-- brief expressions
pub mod Wording
-- deciding a frequent step
pub mod Turning
-- tests in a row
pub mod Choosing
-- calls, and any instruction
pub mod Deciding
