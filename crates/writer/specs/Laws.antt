-- What the definitions of this crate are worth.

-- what the writer promises
pub mod Put
-- and what a page does
pub mod Pages
