-- What the definitions of this crate are worth.

-- the word of a value holds it
pub mod Words
-- words and frames of locals
pub mod Work
-- memory in words
pub mod Holding
-- the first cell of each location
pub mod Starting
-- bytes written over a lent buffer
pub mod Writing
-- events written one after the other
pub mod Logging
