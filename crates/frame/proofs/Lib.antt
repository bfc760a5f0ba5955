-- Proofs of the crate `frame`.

-- one law for each way to set heads and locals
pub mod Heading
-- locations and areas
pub mod Placing
-- declarations and definitions
pub mod Defining
-- the whole text
pub mod Gathering
