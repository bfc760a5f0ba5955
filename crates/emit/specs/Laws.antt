-- What the definitions of this crate are worth.

-- and of code that it reads from the source
pub mod Sources
-- what is known of the source, and where the copy keeps what
pub mod Shapes
