-- What the definitions are worth: laws, and what is worked by hand.

-- tables with every form, worked by hand
pub mod Worked
-- the bounds of the rules, at both sides
pub mod Boundaries
-- what these are worth: read Laws.Sound, then Laws.Accepted
pub mod Laws
