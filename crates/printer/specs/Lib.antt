-- Prints a sequential table as C11 text.

-- a table that its reader accepted
pub mod Accepted
