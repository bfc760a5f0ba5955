-- What the definitions of this crate are worth.

-- procedure 0, as it is written
pub mod Zeroth
