-- `jumps::fill` meets its contract: the bodies before procedure `m` are done, and its own begins at `at`.
use Rattle.jumps.proofs.JumpingBodies.{Filled}
use Rattle.jumps.proofs.ways.fill.Given as goal

abbrev pub invariant-loop : goal.invariant-loop
invariant-loop l = Filled l.t l.procedures l.initial.jumps l.counter l.at l.jumps
