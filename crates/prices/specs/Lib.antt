-- What the step at a label costs the copy.

-- what the functions over the price list promise
pub mod Costs
-- the answer of the call
pub mod Answers
