-- `emit::pieces::put_loads` meets its contract.
use Rattle.emit.proofs.Coding.{code_ways}
use Rattle.emit.proofs.pieces.put_loads.Goals as goal

pub returns-then-set-eq0 : goal.returns-then-set-eq0
returns-then-set-eq0 c = search code_ways
