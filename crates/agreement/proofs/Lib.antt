-- What the definitions are worth: laws, and what is worked by hand.

-- document 01, "Worked by hand": the starred cases, computed
pub mod Worked
-- request 107's example C, run in both modes
pub mod Reused
-- request #110: 32 threads
pub mod Workers
-- the proof of demand 3: read the end of Laws.Accepted
pub mod Laws
