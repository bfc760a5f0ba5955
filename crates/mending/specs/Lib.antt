-- The mender for lost trailers.

-- the acceptable trailers, and what the mender answers and leaves in the lent buffers
pub mod Mending
