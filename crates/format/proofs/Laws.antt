-- What the definitions of this crate are worth. Read Sound, then Accepted: a table is accepted exactly if the paper's rules hold; then Formed and
-- Refusals: a number is answered exactly if it is the smallest that applies.

-- numbers and their bytes
pub use Rattle.value.proofs.Laws.Bytes
-- exact readers: they undo a writer and accept nothing else
pub mod Reading
-- rule 5 as statements
pub mod Names
-- how deep things nest
pub mod Depths
-- what a table can say
pub mod Fits
-- names that mean something fit it
pub mod Ranges
-- the reader of expressions is exact
pub mod Exprs
-- so is that of blocks
pub mod Blocks
-- and those of a table's sections
pub mod Sections
-- the procedures that a block calls
pub mod Callees
-- rule 7 without a bound on the calls
pub mod Calls
-- rule 4 as a statement: where an instruction may stand
pub mod Permits
-- rule 8 as a statement: set before read
pub mod SetFirst
-- the rules, in one record
pub mod Sound
-- the records and bodies of a table are those of its procedures
pub mod Heads
-- the rules of a byte string, by number
pub mod Formed
-- each test of Rules decides a rule
pub mod Judged
-- rules that hold are passed by the verdict
pub mod Passes
-- and a verdict tells which rules hold
pub mod Holds
-- so a number is answered exactly if it is the smallest that applies
pub mod Refusals
-- and a table is accepted exactly if it is a sound program's
pub mod Accepted
-- narrower bounds: what an old reader says of a table
pub mod Wider
-- a sound program's table is bytes
pub mod TableBytes
-- the sections of a table by their places
pub mod Places
-- the rules, of procedure m
pub mod Procs
-- rule 8: more set before, more set after
pub mod Sets
-- one block after another
pub mod Joined
-- the variables of expressions are among the locals
pub mod Variables
-- labels count from 1, in textual order
pub mod LabelOrder
-- labels do not matter to the rules
pub mod Labelled
-- bytes that stand in a table, by positions
pub mod Stands
-- what expression stands at a position, by the byte there
pub mod ExprGrammar
-- what instruction, what block
pub mod Grammar
-- the readers by positions
pub mod Positions
-- what stands where in a table
pub mod TablePlaces
-- what a reader leaves; a block without the bound on the reader's recursion
pub mod Rests
