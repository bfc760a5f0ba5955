-- `engine::memory::set_starts` meets its contract.
use Rattle.std.proofs.Common.{rules}
use Rattle.engine.specs.Laws.Starting.{starting_ways}
use Rattle.engine.proofs.memory.set_starts.Goals as goal

pub loop-i-preserved : goal.loop-i-preserved
loop-i-preserved c = search (starting_ways, rules)

pub loop-i-2-preserved : goal.loop-i-2-preserved
loop-i-2-preserved c = search (starting_ways, rules)

pub returns : goal.returns
returns c = search (starting_ways, rules)
