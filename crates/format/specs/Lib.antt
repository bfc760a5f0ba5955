-- Programs of both languages, their bytes, and the rules by which a table is read: definitions and laws, no code.

-- the two languages: report RR-2017-03, section 2.1
pub mod Syntax
-- the bytes of a program: document 01, the mark tables and "A table"
pub mod Encode
-- the way back from bytes
pub mod Decode
-- document 01, "Labels"
pub mod Labels
-- document 01, "Numbers of refusal", 1 to 8: the verdict on a table
pub mod Rules
-- the variables that expressions mention
pub mod Variables
-- what the reader's call answers
pub mod Calls
