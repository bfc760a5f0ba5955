-- `lines::args::put_more` meets its contract.
use Rattle.std.proofs.Common.{◌-◌}
use Rattle.lines.specs.Lines.{Further}
use Rattle.lines.proofs.args.put_more.Given as goal

abbrev pub invariant-loop : goal.invariant-loop
invariant-loop l = Further l.t l.at l.n l.initial.page l.next (l.n - l.counter) l.page
