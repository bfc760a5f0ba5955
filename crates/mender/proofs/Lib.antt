-- What the proofs of this crate share.

-- the last sixteen bytes, and the list of changes
pub mod Trailing
-- the search
pub mod Searching
-- the answer
pub mod Answering
