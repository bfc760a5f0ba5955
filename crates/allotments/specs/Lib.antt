-- The round-robin bench: allotments of steps to threads, and what the bench answers.

-- an allotment's counts, its schedule and its run
pub mod Allotments
-- what the bench answers and leaves in the lent buffer
pub mod Bench
