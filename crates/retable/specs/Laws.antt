-- What the parser promises: nothing about texts of no program.

-- places and numbers
pub mod Pieces
-- expressions
pub mod Exprs
-- lines that hold no block
pub mod Lines
-- instructions and blocks
pub mod Blocks
-- lines around the bodies
pub mod Frames
-- definitions, and a whole text: read Reparses
pub mod Whole
