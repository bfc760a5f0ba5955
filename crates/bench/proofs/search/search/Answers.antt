-- `bench::search::search` meets its contract: no allotment before `number` blocks.
use Rattle.bench.proofs.Searching.{seek_ways}
use Rattle.bench.proofs.search.search.Goals as goal

pub loop-number-init : goal.loop-number-init
loop-number-init c = search seek_ways

pub try_one-requires : goal.try_one-requires
try_one-requires c = search seek_ways

pub returns-then-try_one : goal.returns-then-try_one
returns-then-try_one c = search seek_ways

pub loop-number-preserved : goal.loop-number-preserved
loop-number-preserved c = search seek_ways

pub returns : goal.returns
returns c = search seek_ways
