-- What the definitions of this crate are worth.

-- a decided step is what figure 1 says
pub mod Deciding
