-- The sequential program of a concurrent one, and what the translator's call answers: definitions and laws, no code.

-- where the locals of each procedure begin, in both modes
pub mod Placement
-- where the copy keeps what
pub mod Layout
-- the code of one label: report RR-2017-03, figures 3 to 11
pub mod Code
-- procedure 0 and the procedures of all labels: report RR-2017-03, sections 3.8 and 3.9
pub mod Translate
-- what the translator's call answers and leaves in the lent buffer
pub mod Calls
