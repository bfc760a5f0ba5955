-- `label_costs` meets its contract.
use Rattle.prices.proofs.Labelling.{label_ways}
use Rattle.prices.proofs.label_costs.Goals as goal

pub fill_labels-requires-clause-bodies_in : goal.fill_labels-requires-clause-bodies_in
fill_labels-requires-clause-bodies_in c = search label_ways

pub step_costs-requires : goal.step_costs-requires
step_costs-requires c = search label_ways

pub returns : goal.returns
returns c = search label_ways
