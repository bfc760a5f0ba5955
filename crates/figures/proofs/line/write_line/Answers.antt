-- `figures::line::write_line` meets its contract.
use Rattle.std.proofs.Common.{rules}
use Rattle.figures.proofs.Lines.{line_whole}
use Rattle.figures.proofs.line.write_line.Goals as goal

pub returns : goal.returns
returns c = line_whole c.args.f (search rules) c.put_line.ensures
