-- `emit::pieces::put_return` meets its contract.
use Rattle.emit.proofs.Coding.{code_ways}
use Rattle.emit.proofs.pieces.put_return.Goals as goal

pub returns : goal.returns
returns c = search code_ways
