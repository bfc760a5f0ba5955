-- `figures::line::put_line` meets its contract.
use Rattle.writer.proofs.Puts.{put_same}
use Rattle.figures.proofs.Lines.{line_refused, line_told}
use Rattle.figures.proofs.line.put_line.Goals as goal

-- a refusal
pub returns-then-f-ne0 : goal.returns-then-f-ne0
returns-then-f-ne0 c = line_refused c.args.f c.if-f-ne0.true c.from.ensures c.put_word-p.ensures c.put_numbers.ensures

-- a run
pub returns : goal.returns
returns c = line_told c.args.f c.if-f-ne0.false c.from-2.ensures (put_same c.end_word.ensures c.put_word-p-2.ensures) c.put_numbers-2.ensures
