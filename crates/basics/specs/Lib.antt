-- What the small functions on values, marks and bytes are proved against, beyond the definitions of `value`, and the sizes of the code's arrays.

-- the table by mark byte, as the code uses it
pub mod Columns
-- numbers and values at places of a table or a buffer
pub mod Places
-- the operands of the operators on whole numbers, and what becomes of a result
pub mod Operands
-- why a call refuses, by the paper's numbers
pub mod Refusals
-- sets of locals as bits
pub mod BitSets
-- sizes of arrays, made from the definitions' numbers
pub mod Sizes
-- what these are worth
pub mod Laws
