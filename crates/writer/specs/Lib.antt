-- Writes bytes into a lent buffer, each where the buffer has a place for it.

-- what these are worth
pub mod Laws
