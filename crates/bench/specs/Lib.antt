-- The bench at work.

-- how many allotments there are, and the counts of one
pub mod Counting
-- an allotment is tried
pub mod Trying
-- the search
pub mod Searching
-- the call
pub mod Benching
