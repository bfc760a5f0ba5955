-- `places::raise_callees` meets its contract.
use Rattle.places.specs.Laws.Raising.{Raising}
use Rattle.places.proofs.raise_callees.Given as goal

abbrev pub invariant-loop-m : goal.invariant-loop-m
invariant-loop-m l = Raising l.called l.procedures l.end l.initial.starts l.m l.starts
