-- The concurrent machine, from an accepted table to its answer.

-- what the code for one step of a frame is asked and answers
pub mod Turning
-- what the code for a step of a thread is asked and answers
pub mod Stepping
-- the run of the concurrent machine at work
pub mod Concurrent
-- a program that is prepared once and run many times
pub mod Anew
-- what these are worth
pub mod Laws
