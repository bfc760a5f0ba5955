-- `retable::frames::skip_args` meets its contract.
use Rattle.std.proofs.Common.{◌-◌}
use Rattle.retable.proofs.Heading.{ArgsFrom}
use Rattle.retable.proofs.frames.skip_args.Given as goal

abbrev pub invariant-loop : goal.invariant-loop
invariant-loop l = ArgsFrom l.x l.at l.count l.next (l.count - l.counter)
