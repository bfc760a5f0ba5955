-- `quick::brief::nested` meets its contract.
use Rattle.std.proofs.Common.{rules}
use Rattle.quick.proofs.Wording.{brief_ways}
use Rattle.quick.proofs.brief.nested.Goals as goal

pub operand-a-requires : goal.operand-a-requires
operand-a-requires c = search (brief_ways, rules)

pub operand-b-requires : goal.operand-b-requires
operand-b-requires c = search (brief_ways, rules)

pub returns : goal.returns
returns c = search (brief_ways, rules)
