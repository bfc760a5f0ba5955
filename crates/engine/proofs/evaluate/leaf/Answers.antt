-- `engine::evaluate::leaf` meets its contract.
use Rattle.std.proofs.Common.{rules}
use Rattle.engine.proofs.Evaluating.{leaf_ways}
use Rattle.engine.proofs.evaluate.leaf.Goals as goal

pub bounds-t-at : goal.bounds-t-at
bounds-t-at c = search (leaf_ways, rules)

pub four-requires : goal.four-requires
four-requires c = search (leaf_ways, rules)

pub two-requires : goal.two-requires
two-requires c = search (leaf_ways, rules)

pub bounds-t-at-in_default : goal.bounds-t-at-in_default
bounds-t-at-in_default c = search (leaf_ways, rules)

pub get-requires : goal.get-requires
get-requires c = search (leaf_ways, rules)

pub returns-in-1 : goal.returns-in-1
returns-in-1 c = search (leaf_ways, rules)

pub returns-in-2 : goal.returns-in-2
returns-in-2 c = search (leaf_ways, rules)

pub returns-in-3 : goal.returns-in-3
returns-in-3 c = search (leaf_ways, rules)

pub returns-in-4 : goal.returns-in-4
returns-in-4 c = search (leaf_ways, rules)

pub returns-in_default : goal.returns-in_default
returns-in_default c = search (leaf_ways, rules)
