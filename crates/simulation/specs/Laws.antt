-- What the definitions of this crate are worth.

-- the procedures that simulate the labels
pub mod Bodies
