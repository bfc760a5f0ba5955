-- `decide::step::read_step` meets its contract.
use Rattle.std.proofs.Common.{rules}
use Rattle.decide.proofs.Deciding.{read_ways}
use Rattle.decide.proofs.step.read_step.Goals as goal

pub returns-in-Err : goal.returns-in-Err
returns-in-Err c = search (read_ways, rules)

pub get-requires : goal.get-requires
get-requires c = search (read_ways, rules)

pub returns-in-Ok-get : goal.returns-in-Ok-get
returns-in-Ok-get c = search (read_ways, rules)

pub returns-in-Err-get : goal.returns-in-Err-get
returns-in-Err-get c = search (read_ways, rules)
