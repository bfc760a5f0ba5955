-- What the definitions are worth: laws, and what is worked by hand.

-- runs worked by hand
pub mod Worked
-- what these are worth
pub mod Laws
