-- From the C text of a sequential table back to the table.

-- what the parser promises
pub mod Laws
