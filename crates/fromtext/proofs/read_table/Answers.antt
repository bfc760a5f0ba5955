-- `fromtext::read_table` meets its contract.
use Rattle.std.proofs.Common.{ℕ}
use lib.ListN.{length-replicate}
use Rattle.fromtext.proofs.Judging.{call_long, call_judged}
use Rattle.fromtext.proofs.read_table.Goals as goal

-- no table is so long
pub returns-then-n-gt-LONGEST : goal.returns-then-n-gt-LONGEST
returns-then-n-gt-LONGEST c = call_long c.parse-n.ensures (length-replicate {A = ℕ} 65536 0) c.if-n-gt-LONGEST.true

-- judged
pub returns : goal.returns
returns c = call_judged c.parse-n.ensures (length-replicate {A = ℕ} 65536 0) c.judge.ensures
