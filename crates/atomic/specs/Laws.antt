-- What the definitions of this crate are worth.

-- the code of a frame in the table and in the label map
pub mod Standing
-- a stack is a chain of calls
pub mod Linked
-- an atomic block in one go
pub mod Acting
-- a step of one thread, and the stacks of the others
pub mod Threading
-- the step that is decided inside an atomic block
pub mod Fitting
