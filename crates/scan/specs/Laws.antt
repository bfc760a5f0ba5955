-- What the definitions of this crate are worth.

-- a block as a row of tokens
pub mod Tokens
-- loops over tokens
pub mod Scans
-- the program of a table, by the numbers that the code goes by
pub mod Laid
-- rule 5, token by token
pub mod NameScans
-- rule 7, token by token
pub mod CallScans
-- procedures from which calls come to an end
pub mod CallEnds
-- and the search for others
pub mod CallSearch
-- rule 6, as the code counts
pub mod LabelScans
