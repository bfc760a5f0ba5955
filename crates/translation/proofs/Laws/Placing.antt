-- What the placements of locals are worth: read Best and Modes.

-- the largest of some numbers, and callers
pub mod Largest
-- paths of calls, and the rounds: the shared placement meets its recursive equation
pub mod Rounds
-- what code may keep that finds it
pub mod Passes
-- PROCEDURES ON ONE CALL PATH DO NOT OVERLAP, in both placements
pub mod Apart
-- NO FIXED PLACEMENT WITH THAT PROPERTY HAS A SHORTER ROW
pub mod Shortest
-- all of it, of every program that rule 7 lets pass
pub mod Best
-- both modes keep what demand 3 needs of a placement
pub mod Modes
-- the length of the copy's table in both modes
pub mod Lengths
