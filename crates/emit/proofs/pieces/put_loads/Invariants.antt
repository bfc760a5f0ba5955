-- `emit::pieces::put_loads` meets its contract.
use Rattle.emit.specs.Laws.Sources.{Loading}
use Rattle.emit.proofs.pieces.put_loads.Given as goal

abbrev pub invariant-loop-x : goal.invariant-loop-x
invariant-loop-x l = Loading l.s l.set l.x l.initial.out l.out
