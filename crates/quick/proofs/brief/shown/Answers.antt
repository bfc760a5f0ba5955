-- `quick::brief::shown` meets its contract.
use Rattle.std.proofs.Common.{rules}
use Rattle.quick.proofs.Wording.{brief_ways}
use Rattle.quick.proofs.brief.shown.Goals as goal

pub returns-then-w-lt-PAST : goal.returns-then-w-lt-PAST
returns-then-w-lt-PAST c = search (brief_ways, rules)
