-- `label_map::fill_labels` meets its contract.
use Rattle.labels.proofs.Mapping.{map_ways}
use Rattle.labels.proofs.label_map.fill_labels.Goals as goal

pub count_block-body-requires : goal.count_block-body-requires
count_block-body-requires c = search map_ways

pub fill_block-requires-clause-block_in : goal.fill_block-requires-clause-block_in
fill_block-requires-clause-block_in c = search map_ways

pub loop-m-preserved : goal.loop-m-preserved
loop-m-preserved c = search map_ways

pub returns : goal.returns
returns c = search map_ways
