-- The text of instructions and blocks that stand in a sequential table.

-- what is promised of them
pub mod Lines
