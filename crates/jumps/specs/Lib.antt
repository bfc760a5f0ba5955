-- The jump table of the sequential machine: where each instruction leads.

-- the jump table of the sequential machine
pub mod Jumps
