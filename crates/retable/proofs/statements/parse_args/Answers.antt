-- `retable::statements::parse_args` meets its contract.
use Rattle.retable.proofs.Arguing.{args_ways}
use Rattle.retable.proofs.statements.parse_args.Goals as goal

pub returns-then-peek-eq41 : goal.returns-then-peek-eq41
returns-then-peek-eq41 c = search args_ways

pub returns : goal.returns
returns c = search args_ways
