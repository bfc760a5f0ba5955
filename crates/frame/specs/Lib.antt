-- The whole text of an accepted sequential table.

-- what is promised of its parts
pub mod Frames
