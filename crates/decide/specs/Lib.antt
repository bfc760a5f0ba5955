-- The half of a step that decides, for both machines: what an instruction asks for.

-- the deciding half of a step
pub mod Decided
-- what these are worth
pub mod Laws
