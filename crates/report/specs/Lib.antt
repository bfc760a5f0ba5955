-- The report's machine, kept plain: frames with the rows of instructions still to do.

-- the rows of frames
pub mod Rows
-- what the code for a step of a thread is asked and answers
pub mod Stepping
-- the run at work
pub mod Running
