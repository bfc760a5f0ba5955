-- `shape::records::right_sizes` meets its contract.
use Rattle.std.proofs.Common.{refl, rules, tests, arith}
use Rattle.std.proofs.lemmas.Iterator.{YieldsList-from_range}
use Rattle.std.proofs.lemmas.Iterator.Search.{all_from_yields_List}
use Rattle.shape.proofs.Rule3.{sizes_tested}
use Rattle.shape.proofs.records.right_sizes.Goals as goal

pub returns : goal.returns
returns c =
    sizes_tested c.args.body.now c.args.at c.args.count
    (all_from_yields_List _ _ _ _ c.all.ensures.ran (YieldsList-from_range 0 c.args.count c.args.count refl (omega arith)) (λ x b q k. search (rules, tests)))
