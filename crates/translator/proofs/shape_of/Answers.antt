-- `translator::shape_of` meets its contract.
use Rattle.translator.proofs.Answering.{answer_ways}
use Rattle.translator.proofs.shape_of.Goals as goal

pub place-places-requires : goal.place-places-requires
place-places-requires c = search answer_ways

pub returns : goal.returns
returns c = search answer_ways
