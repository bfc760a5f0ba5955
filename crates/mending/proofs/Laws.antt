-- What the definitions of this crate are worth.

-- what stands where before the trailer
pub mod Places
-- P is unique: one front has one count of procedures
pub mod Fronts
-- lists made for each number of a range
pub mod Gather
-- what an acceptable choice is
pub mod Choices
-- how they are found
pub mod Narrow
-- what is in their list
pub mod Found
-- the list of changes
pub mod Changes
-- what the answers are worth
pub mod Mended
