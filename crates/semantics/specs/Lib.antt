-- The two machines: what they do on a program, and what each run call answers.

-- locals, memory and events; the value of an expression
pub mod Memory
-- one step of a stack of frames: report RR-2017-03, figure 1
pub mod Step
-- the concurrent machine under a schedule: report RR-2017-03, figure 2
pub mod Threads
-- the sequential machine, with select, a schedule and a budget
pub mod Copy
-- the bytes of cells and events
pub mod Buffers
-- what each run call answers and leaves in the lent buffers
pub mod Calls
