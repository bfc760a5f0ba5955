-- The labels of a body, the label map, and the variables of expressions, for those who walk over a table that was read.

-- where code stands in the bytes, and what remains there
pub mod Spots
-- the label map
pub mod LabelMap
-- what walks over a table answer
pub mod Walks
-- what these are worth
pub mod Laws
