-- `shape::records::right_mains` meets its contract.
use Rattle.std.proofs.Common.{refl, rules, tests, arith}
use Rattle.std.proofs.lemmas.Iterator.{YieldsList-from_range}
use Rattle.std.proofs.lemmas.Iterator.Search.{all_from_yields_List}
use Rattle.shape.proofs.Rule3.{mains_tested}
use Rattle.shape.proofs.records.right_mains.Goals as goal

pub returns : goal.returns
returns c =
    mains_tested c.args.body.now c.args.at c.args.count c.args.records c.args.procedures
    (all_from_yields_List _ _ _ _ c.all.ensures.ran (YieldsList-from_range 0 c.args.count c.args.count refl (omega arith)) (λ x b q k. search (rules, tests)))
