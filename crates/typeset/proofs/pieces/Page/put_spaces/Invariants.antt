-- `typeset::pieces::Page::put_spaces` meets its contract.
use Rattle.std.proofs.Common.{replicate, ◌-◌}
use Rattle.typeset.specs.Page.{Onto}
use Rattle.typeset.proofs.pieces.Page.put_spaces.Given as goal

abbrev pub invariant-loop : goal.invariant-loop
invariant-loop l = Onto l.initial.self (replicate l.n 32) l.self (replicate (l.n - l.counter) 32)
