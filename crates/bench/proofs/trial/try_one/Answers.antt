-- `bench::trial::try_one` meets its contract.
use Rattle.bench.proofs.Trying.{try_ways}
use Rattle.bench.proofs.trial.try_one.Goals as goal

pub fill_counts-requires : goal.fill_counts-requires
fill_counts-requires c = search try_ways

pub renew-requires : goal.renew-requires
renew-requires c = search try_ways

pub play-requires : goal.play-requires
play-requires c = search try_ways

pub returns : goal.returns
returns c = search try_ways
