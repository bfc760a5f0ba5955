-- What the definitions of this crate are worth.

-- where code stands, and what remains there
pub mod Spots
-- the label map
pub mod LabelMap
-- what a table that was read gives to those who walk over it
pub mod Walked
