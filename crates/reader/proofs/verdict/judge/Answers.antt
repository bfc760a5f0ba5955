-- `reader::verdict::judge` meets its contract.
use Rattle.reader.proofs.Verdicts.{shape_room}
use Rattle.reader.proofs.verdict.judge.Goals as goal

pub invariant_of-bodies : goal.invariant_of-bodies
invariant_of-bodies c = record { room = shape_room c.requires.1 }
