-- `decide::step::looked_at` meets its contract.
use Rattle.std.proofs.Common.{rules}
use Rattle.decide.proofs.Selecting.{look_ways}
use Rattle.decide.proofs.step.looked_at.Goals as goal

pub get-requires : goal.get-requires
get-requires c = search (look_ways, c.in_ok-spot.was, rules)

pub returns : goal.returns
returns c = search (look_ways, c.in_ok-spot.was, rules)
