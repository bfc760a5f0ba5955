-- `decide::step::pass` meets its contract.
use Rattle.std.proofs.Common.{rules, ◌≡◌, ℕ, Result, Err}
use Rattle.value.specs.declared.Value.{Value}
use Rattle.value.specs.declared.Reason.{Reason}
use Rattle.decide.proofs.Passing.{passing_ways}
use Rattle.decide.proofs.step.pass.Goals as goal

pub loop-i-init : goal.loop-i-init
loop-i-init c = search (passing_ways, rules)

pub evaluate-e-requires : goal.evaluate-e-requires
evaluate-e-requires c = search (passing_ways, rules)

pub returns-in_err-v : goal.returns-in_err-v
returns-in_err-v c =
    let lacking : ◌≡◌ {A = Result Value Reason} c.evaluate-e.result.answer (Err c.in_err-v.field-0.0) = search (c.in_err-v.was, rules) in
    let handed : ◌≡◌ {A = Result ℕ Reason} c.from_residual.result (Err c.in_err-v.field-0.0) = search rules in
    search (passing_ways, rules)

pub loop-i-preserved : goal.loop-i-preserved
loop-i-preserved c = search (passing_ways, c.in_ok-v.was, rules)

pub returns : goal.returns
returns c = search (passing_ways, rules)
