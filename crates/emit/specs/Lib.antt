-- Writes the pieces of the copy's code: expressions, loads and stores, assign, read and write.

-- what these are worth
pub mod Laws
