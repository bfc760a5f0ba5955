-- `lines::plain::put_numbered` meets its contract.
use Rattle.std.proofs.Common.{arith}
use Rattle.lines.proofs.Plainly.{numbered_put}
use Rattle.lines.proofs.plain.put_numbered.Goals as goal

pub returns : goal.returns
returns c = grind (arith, numbered_put)
