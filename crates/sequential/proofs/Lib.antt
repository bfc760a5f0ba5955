-- What the proofs of this crate share.

-- the stack of frames
pub mod Framing
-- what stands where a run goes on
pub mod Standing
-- one step of the definition, instruction by instruction
pub mod Nexts
-- a step that is due, and what it asks
pub mod DueSteps
-- carrying out a step, way by way
pub mod CarryingOut
-- carrying out a quick step, way by way
pub mod Wording
-- the run of the definition
pub mod RunSteps
-- the run, step by step
pub mod Running
-- the quick way through it
pub mod Turning
-- deciding the step of a run
pub mod Facing
-- the call, from the table to the answer
pub mod Calling
