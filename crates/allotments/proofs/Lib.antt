-- What the definitions are worth: laws, and what is worked by hand.

-- answers worked by hand
pub mod Worked
-- what these are worth
pub mod Laws
