-- The frequent steps of the sequential machine, decided by words alone.

-- the words of brief expressions
pub mod Brief
-- the deciding half of a frequent step
pub mod Quick
