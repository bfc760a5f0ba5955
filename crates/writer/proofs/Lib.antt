-- What the proofs of this crate share.

-- one law for each way through the writer
pub mod Puts
-- and one for each way over a page
pub mod Paging
