-- `typeset::pieces::same_from` meets its contract.
use Rattle.typeset.proofs.Setting.{agrees_next, agrees_no_more, agrees_whole}
use Rattle.typeset.proofs.pieces.same_from.Goals as goal

-- another byte
pub returns-then-text-at-clause-counted : goal.returns-then-text-at-clause-counted
returns-then-text-at-clause-counted c = search agrees_no_more

pub loop-i-preserved : goal.loop-i-preserved
loop-i-preserved c = search agrees_next

pub returns-clause-counted : goal.returns-clause-counted
returns-clause-counted c = search agrees_whole
