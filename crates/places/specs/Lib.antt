-- Where the copy keeps locals.

-- what is known of the source's table, and what is promised of its places
pub mod Placed
-- what these are worth
pub mod Laws
