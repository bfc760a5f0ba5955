-- The sequential machine, from an accepted table to its answer.

-- the stack of frames of the sequential machine
pub mod Frames
-- the sequential machine at work
pub mod Sequential
-- a quick step of it
pub mod Words
