-- Laws of this crate's definitions.

-- the table by mark byte: what each row says of an operator is so
pub mod Columns
-- numbers and values at places
pub mod Places
-- an answer without a value
pub mod Reasons
-- sets of locals as bits
pub mod BitSets
