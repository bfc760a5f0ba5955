-- `quick::turn::probe` meets its contract.
use Rattle.std.proofs.Common.{rules}
use Rattle.quick.proofs.Choosing.{probe_ways}
use Rattle.quick.proofs.turn.probe.Goals as goal

pub choose-requires : goal.choose-requires
choose-requires c = search (probe_ways, rules)

pub returns-then-t-at-lt-LEAVES : goal.returns-then-t-at-lt-LEAVES
returns-then-t-at-lt-LEAVES c = search (probe_ways, rules)

pub returns : goal.returns
returns c = search (probe_ways, rules)
