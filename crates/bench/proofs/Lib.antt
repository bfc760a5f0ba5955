-- What the proofs of this crate share.

-- how many allotments there are, and the counts of one
pub mod Counting
-- the steps of a thread
pub mod Taking
-- the rounds of an allotment
pub mod Playing
-- one allotment is tried
pub mod Trying
-- the search
pub mod Searching
-- the call
pub mod Benching
