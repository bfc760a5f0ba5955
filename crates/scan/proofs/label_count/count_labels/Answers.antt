-- `scan::label_count::count_labels` meets its contract.
use Rattle.std.proofs.Common.{arith}
use Rattle.scan.specs.Laws.LabelScans.{ways, own_few}
use Rattle.scan.proofs.label_count.count_labels.Goals as goal

pub overflow_add-labels : goal.overflow_add-labels
overflow_add-labels c =
    omega (arith, own_few c.loop-i.within c.token_at-k.result, c.own_labels-labels.ensures, c.requires, c.loop-i.invariant.few)

pub loop-i-smaller : goal.loop-i-smaller
loop-i-smaller c = search ways

pub loop-i-preserved : goal.loop-i-preserved
loop-i-preserved c = search ways

pub returns : goal.returns
returns c = search ways
