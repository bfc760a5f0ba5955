-- What the definitions are worth: laws, and what is worked by hand.

-- a translation worked by hand
pub mod Example
-- programs of request 107, placed in both modes
pub mod Worked
-- what these are worth: read the end of Laws.Copy, and Laws.Placing.Best
pub mod Laws
