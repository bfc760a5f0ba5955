-- `jumps::fill` meets its contract: the bodies before procedure `m` are done, and its own begins at `at`.
use Rattle.std.proofs.Common.{rules}
use Rattle.jumps.proofs.JumpingBodies.{bodies_ways}
use Rattle.jumps.proofs.ways.fill.Goals as goal

pub loop-init : goal.loop-init
loop-init c = search (bodies_ways, rules)

pub count_block-next-requires : goal.count_block-next-requires
count_block-next-requires c = search (bodies_ways, rules)

pub fill_block-requires-clause-block_in : goal.fill_block-requires-clause-block_in
fill_block-requires-clause-block_in c = search (bodies_ways, rules)

pub loop-preserved : goal.loop-preserved
loop-preserved c = search (bodies_ways, rules)

pub returns : goal.returns
returns c = search (bodies_ways, rules)
