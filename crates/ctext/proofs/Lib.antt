-- What the definitions are worth: laws, and what is worked by hand.

-- worked by hand
pub mod Worked
-- what these are worth: read Laws.OneToOne and Laws.Reads
pub mod Laws
