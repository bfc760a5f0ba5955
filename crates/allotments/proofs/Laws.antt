-- What the definitions of this crate are worth.

-- an allotment's run, step by step
pub mod Trials
-- the search: the first allotment that blocks, or that there is none
pub mod Searches
-- an allotment's counts and its number
pub mod Digits
-- the bench's answer
pub mod Answered
-- an allotment's run is what the run call answers
pub mod Called
