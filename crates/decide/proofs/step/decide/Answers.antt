-- `decide::step::decide` meets its contract.
use Rattle.std.proofs.Common.{rules}
use Rattle.decide.proofs.Deciding.{decide_ways}
use Rattle.decide.proofs.step.decide.Goals as goal

pub evaluate-e-requires : goal.evaluate-e-requires
evaluate-e-requires c = search (decide_ways, rules)

pub returns-in-32 : goal.returns-in-32
returns-in-32 c = search (decide_ways, rules)

pub returns-in_default : goal.returns-in_default
returns-in_default c = search (decide_ways, rules)
