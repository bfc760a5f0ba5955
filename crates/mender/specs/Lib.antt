-- Mends a table whose trailer is lost.

-- the last sixteen bytes, and the list of changes
pub mod Trailing
-- the search for acceptable choices
pub mod Searching
-- the answer
pub mod Answering
