-- `emit::pieces::put_member` meets its contract.
use Rattle.emit.proofs.Coding.{code_ways}
use Rattle.emit.proofs.pieces.put_member.Goals as goal

pub returns-then-has : goal.returns-then-has
returns-then-has c = search code_ways

pub returns-else-has : goal.returns-else-has
returns-else-has c = search code_ways
