-- The text of expressions that stand in a sequential table.

-- what is promised of them
pub mod Shows
