-- What the definitions of this crate are worth: a text has one program, and the text reader finds it.

-- numbers in decimal are read back
pub mod Numbers
-- what expression stands at a position
pub mod ExprText
-- numbers, expressions and arguments, with what follows them
pub mod ArgText
-- what instruction and what block stand at a position
pub mod LineText
-- one law for each way to read them
pub mod BlockText
-- around the blocks
pub mod FrameText
-- definitions of procedures
pub mod DefinitionText
-- a text has one program
pub mod OneToOne
-- what the text reader finds
pub mod Reads
