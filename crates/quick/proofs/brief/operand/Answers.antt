-- `quick::brief::operand` meets its contract.
use Rattle.std.proofs.Common.{rules}
use Rattle.quick.proofs.Wording.{brief_ways}
use Rattle.quick.proofs.brief.operand.Goals as goal

pub bounds-t-at : goal.bounds-t-at
bounds-t-at c = search (brief_ways, rules)
