-- `figures::line::put_number` meets its contract.
use Rattle.std.proofs.Common.{◌∙◌, rules}
use Rattle.writer.proofs.Puts.{put_same}
use Rattle.figures.proofs.Lines.{spaced_number}
use Rattle.figures.proofs.line.put_number.Goals as goal

pub returns : goal.returns
returns c =
    spaced_number c.args.n (search rules) c.put-p.ensures (put_same (c.as_bytes.ensures.value ∙ c.format.ensures.text) c.put_word.ensures)
