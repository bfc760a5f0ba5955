-- What the proofs of this crate share.

-- the range of a value that the code holds
pub mod Values
-- one law for each way through an operator of the evaluator
pub mod Operands
-- the evaluator, way by way
pub mod Evaluating
-- finding a cell, way by way
pub mod Placing
