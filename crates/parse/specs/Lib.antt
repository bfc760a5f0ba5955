-- Expressions, instructions and blocks in bytes: where what is read ends.

-- where the readers of the code end
pub mod Ends
