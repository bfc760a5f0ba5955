-- What the proofs of this crate share.

-- the first frames of the threads of the concurrent machine
pub mod Beginning
-- the state that a run of a prepared program begins with
pub mod Renewing
-- the run of the concurrent machine, step by step
pub mod ConcurrentRun
-- the call of the concurrent machine, from the table to the answer
pub mod ConcurrentCall
-- a turn that is an atomic block
pub mod TurningAtomic
-- what any other turn asks for
pub mod TurningAsked
-- one step of a frame's code, way by way
pub mod Turning
-- one step of a thread
pub mod Stepping
