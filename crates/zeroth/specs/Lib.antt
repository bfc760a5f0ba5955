-- Writes procedure 0 of the copy.

-- what these are worth
pub mod Laws
