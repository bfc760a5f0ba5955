-- What the loops of this crate keep.

-- who calls whom
pub mod Marking
-- starts that are raised round by round
pub mod Raising
