-- `fromtext::judge` meets its contract.
use Rattle.printer.proofs.Printing.{call_accepts}
use Rattle.fromtext.proofs.Judging.{judge_refused}
use Rattle.fromtext.proofs.judge.Goals as goal

-- the counts of an accepted table
pub compare-requires : goal.compare-requires
compare-requires c = call_accepts c.args.table.now c.in-Ok.ensures (λ i l. (c.type_inv.table i).fits)

-- no accepted table
pub returns-in-Err : goal.returns-in-Err
returns-in-Err c = judge_refused c.args.table.now c.args.out.now _ c.in-Err.ensures
