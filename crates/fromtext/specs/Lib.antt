-- Reads C11 text back into the sequential table whose text it is.

-- what is promised of a table that may be the one
pub mod Judged
