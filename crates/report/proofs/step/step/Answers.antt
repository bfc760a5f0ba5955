-- `report::step::step` meets its contract.
use Rattle.std.proofs.Common.{arith}
use Rattle.report.proofs.Settling.{step_small, step_within, settled, step_ready, step_returns, step_rules, step_ways}
use Rattle.report.proofs.step.step.Goals as goal

pub returns-then-depths-i-eq0 : goal.returns-then-depths-i-eq0
returns-then-depths-i-eq0 c = search step_ways

pub overflow_add-top : goal.overflow_add-top
overflow_add-top c = record { fits = omega (arith, step_small c.requires c.if-depths-i-eq0.false) }

pub overflow_mul-top-2 : goal.overflow_mul-top-2
overflow_mul-top-2 c = record { fits = omega (arith, step_small c.requires c.if-depths-i-eq0.false) }

pub offset_bounds-heights-top : goal.offset_bounds-heights-top
offset_bounds-heights-top c = record { fits = omega (arith, step_small c.requires c.if-depths-i-eq0.false) }

pub bounds-heights-top : goal.bounds-heights-top
bounds-heights-top c = omega (arith, step_small c.requires c.if-depths-i-eq0.false)

pub left-requires : goal.left-requires
left-requires c = step_within c.requires c.if-depths-i-eq0.false

pub offset_bounds-heights-top-2 : goal.offset_bounds-heights-top-2
offset_bounds-heights-top-2 c = record { fits = omega (arith, step_small c.requires c.if-depths-i-eq0.false) }

pub bounds-heights-top-2 : goal.bounds-heights-top-2
bounds-heights-top-2 c = omega (arith, step_small c.requires c.if-depths-i-eq0.false)

pub offset_bounds-heights-top-3 : goal.offset_bounds-heights-top-3
offset_bounds-heights-top-3 c = record { fits = omega (arith, step_small c.requires c.if-depths-i-eq0.false) }

pub bounds-heights-top-3 : goal.bounds-heights-top-3
bounds-heights-top-3 c = omega (arith, step_small c.requires c.if-depths-i-eq0.false)

pub returns-then-heights-top-eq0 : goal.returns-then-heights-top-eq0
returns-then-heights-top-eq0 c = step_returns c.if-depths-i-eq0.false c.left.ensures c.if-heights-top-eq0.true

pub rule-requires-clause-stepping : goal.rule-requires-clause-stepping
rule-requires-clause-stepping c = settled c.if-depths-i-eq0.false c.left.ensures c.requires

pub rule-requires-clause-ready : goal.rule-requires-clause-ready
rule-requires-clause-ready c = step_ready c.if-depths-i-eq0.false c.left.ensures c.requires c.if-heights-top-eq0.false

pub returns : goal.returns
returns c = step_rules c.if-depths-i-eq0.false c.left.ensures c.if-heights-top-eq0.false c.rule.ensures
