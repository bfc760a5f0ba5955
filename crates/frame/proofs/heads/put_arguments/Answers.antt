-- `frame::heads::put_arguments` meets its contract.
use Rattle.std.proofs.Common.{◌≡◌, ◌-◌, arith}
use Rattle.ctext.specs.Pieces.{say}
use Rattle.frame.proofs.heads.put_arguments.Goals as goal

-- the lines in the code are those of the definition
pub returns : goal.returns
unfolding say
returns c = let all : c.args.n - 0 ≡ c.args.n = omega arith in rw all at c.put_lines.ensures
