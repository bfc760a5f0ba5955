-- `decide::step::decide_write` meets its contract.
use Rattle.std.proofs.Common.{rules}
use Rattle.decide.proofs.Deciding.{write_ways}
use Rattle.decide.proofs.step.decide_write.Goals as goal

pub returns-in-Err : goal.returns-in-Err
returns-in-Err c = search (write_ways, rules)

pub returns-in-Ok-place : goal.returns-in-Ok-place
returns-in-Ok-place c = search (write_ways, rules)

pub returns-in-Err-place : goal.returns-in-Err-place
returns-in-Err-place c = search (write_ways, rules)
