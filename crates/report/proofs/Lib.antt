-- How the code of this crate meets its contracts.

-- rows: where blocks end, rows that are used up, tests
pub mod Rowing
-- and the rows of frames at work
pub mod Rowed
-- an atomic block without labels
pub mod Unlabelling
-- an instruction, and an atomic block
pub mod Turning
-- the step of an instruction that was decided
pub mod Taking
-- where bodies and instructions stand
pub mod Standing
-- a step of a thread
pub mod Ruling
-- way by way
pub mod Ways
-- as the code has it
pub mod Ruled
-- rows that are used up, a return, an instruction
pub mod Settling
-- how a run begins
pub mod Starting
-- and goes
pub mod Going
-- from an accepted table to the answer
pub mod Calling
