-- What both machines are made of: words, locals, cells, events, ends of runs and the evaluator.

-- values at work: one word each
pub mod Words
-- what the machines keep at work: words, locals, cells
pub mod Work
-- what the evaluator is asked and answers
pub mod Evaluated
-- events that the code writes
pub mod Events
-- how a run ends, as the code says it
pub mod Ends
-- what these are worth
pub mod Laws
