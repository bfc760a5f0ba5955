-- `quick::turn::call` meets its contract.
use Rattle.std.proofs.Common.{rules}
use Rattle.quick.specs.Brief.{Sure}
use Rattle.quick.proofs.Deciding.{calling_more, calling_ways}
use Rattle.quick.proofs.turn.call.Goals.{then-t-next-lt-LEAVES, else-t-next-lt-LEAVES}
use Rattle.quick.proofs.turn.call.Goals as goal

pub loop-i-init : goal.loop-i-init
loop-i-init c = search (calling_ways, rules)

pub bounds-t-next : goal.bounds-t-next
bounds-t-next c = search (calling_ways, rules)

pub leaf-e-requires : goal.leaf-e-requires
leaf-e-requires c = search (calling_ways, rules)

pub operation-e-requires : goal.operation-e-requires
operation-e-requires c = search (calling_ways, rules)

pub loop-i-preserved : goal.loop-i-preserved
loop-i-preserved c =
    -- an argument, by either way
    let argument : Sure c.args.t.now c.loop-i.words c.args.base c.loop-i.next c.if-t-next-lt-LEAVES.e =
    elim c.if-t-next-lt-LEAVES.branch [
      | then-t-next-lt-LEAVES w ↦ rw w.e-is w.leaf-e.ensures
      | else-t-next-lt-LEAVES w ↦ rw w.e-is w.operation-e.ensures
    ]
    in
    search (calling_more, argument, rules)

pub returns : goal.returns
returns c = search (calling_ways, rules)
