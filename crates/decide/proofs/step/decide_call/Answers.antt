-- `decide::step::decide_call` meets its contract.
use Rattle.std.proofs.Common.{rules}
use Rattle.decide.proofs.Deciding.{call_ways}
use Rattle.decide.proofs.step.decide_call.Goals as goal

pub returns-in-Ok : goal.returns-in-Ok
returns-in-Ok c = search (call_ways, rules)

pub returns-in-Err : goal.returns-in-Err
returns-in-Err c = search (call_ways, rules)
