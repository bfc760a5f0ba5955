-- `figures::line::put_numbers` meets its contract: each number after those before it.
use Rattle.std.proofs.Common.{rules, arith}
use Rattle.figures.proofs.Lines.{spaced_more, spaced_all}
use Rattle.figures.proofs.line.put_numbers.Goals as goal

pub loop-n-preserved : goal.loop-n-preserved
loop-n-preserved c = spaced_more c.args.numbers.now c.loop-n.n-index c.loop-n-test.true c.loop-n.invariant c.put_number-p.ensures

pub returns : goal.returns
returns c = spaced_all c.args.numbers.now c.loop-n.n-index (search (arith, rules)) c.loop-n.invariant c.put.ensures
