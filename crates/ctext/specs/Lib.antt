-- Sequential programs as C11 text, and what the printer's and the text reader's calls answer: definitions and laws, no code.

-- bytes of quoted text, and numbers in decimal
pub mod Pieces
-- the fixed part of every text
pub mod Prelude
-- docs/C-TEXT.md: the text of a program
pub mod Text
-- what the two calls answer and leave in the lent buffer
pub mod Calls
