-- An atomic block of the concurrent machine, in one go.

-- what the concurrent machine keeps at work
pub mod Threaded
-- what an atomic block does, in one go
pub mod Acts
-- what the code that runs an atomic block is asked and answers
pub mod Doing
-- what these are worth
pub mod Laws
