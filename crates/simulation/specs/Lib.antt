-- Writes the procedures that simulate the labels.

-- what these are worth
pub mod Laws
