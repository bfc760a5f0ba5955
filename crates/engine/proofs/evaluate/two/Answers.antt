-- `engine::evaluate::two` meets its contract.
use Rattle.std.proofs.Common.{rules, ◌≡◌, Result, Ok, Err}
use Rattle.value.specs.declared.Value.{Value}
use Rattle.value.specs.declared.Reason.{Reason}
use Rattle.engine.specs.Evaluated.{operated₂}
use Rattle.engine.proofs.Operands.{ways, none_right, right_kept}
use Rattle.engine.proofs.evaluate.two.Goals as goal

pub returns-in_err-u : goal.returns-in_err-u
unfolding operated₂
returns-in_err-u c = search rules

pub returns-then-kind-eq-TRUTH : goal.returns-then-kind-eq-TRUTH
returns-then-kind-eq-TRUTH c = search (ways, c.in_ok-u.was, rules)

pub returns-in_err-v : goal.returns-in_err-v
returns-in_err-v c =
    let left : ◌≡◌ {A = Result Value Reason} c.args.left (Ok c.in_ok-u.u) = search (c.in_ok-u.was, rules) in
    let lacking : ◌≡◌ {A = Result Value Reason} c.judged.result (Err c.in_err-v.field-0.0) = search (c.in_err-v.was, rules) in
    let handed : ◌≡◌ {A = Result Value Reason} c.from_residual-in_err-v.result (Err c.in_err-v.field-0.0) = search rules in
    none_right _ _ _ c.requires.1 c.if-kind-eq-TRUTH.false left c.judged.ensures lacking handed

pub returns : goal.returns
returns c = search (ways, right_kept, c.in_ok-u.was, c.in_ok-v.was, rules)
