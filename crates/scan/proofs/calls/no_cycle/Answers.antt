-- `scan::calls::no_cycle` meets its contract.
use Rattle.std.proofs.Common.{arith}
use Rattle.scan.specs.Laws.CallSearch.{search_ways, is_new, is_old, not_old, visited, visit_first, visit_leave, visit_enter, visit_odd, visit_far, visit_cycle, way_room, less_first, less_enter}
use Rattle.scan.proofs.calls.no_cycle.Goals as goal
use Rattle.scan.proofs.calls.no_cycle.Goals.{then-callee-bodies-via-then-callee-bodies, then-callee-bodies-via-else-callee-bodies+then-ne}

pub loop-first-init : goal.loop-first-init
loop-first-init c = search search_ways

pub loop-first-smaller-then-eq : goal.loop-first-smaller-then-eq
loop-first-smaller-then-eq c = less_first c.loop-first.invariant c.loop-first-test.true c.if-depth-eq0.true (is_new _ c.if-eq.ensures)

pub loop-first-preserved-then-eq : goal.loop-first-preserved-then-eq
loop-first-preserved-then-eq c =
    visit_first c.loop-first.way c.loop-first.invariant c.if-depth-eq0.true c.loop-first-test.true (is_new _ c.if-eq.ensures) c.visit_of.ensures

pub loop-first-smaller-else-eq : goal.loop-first-smaller-else-eq
loop-first-smaller-else-eq c = search search_ways

pub end-end-requires : goal.end-end-requires
end-end-requires c = visited c.loop-first.way c.loop-first.invariant c.if-depth-eq0.false c.from-m.ensures

pub returns-in_default : goal.returns-in_default
returns-in_default c =
    visit_odd c.loop-first.way c.loop-first.invariant c.if-depth-eq0.false c.from-m.ensures c.end-end.ensures c.from.ensures c.next_call-at.ensures c.if-at-end.true c.token_at.ensures
    c.in_default.not-Call

pub returns-then-callee-bodies : goal.returns-then-callee-bodies
returns-then-callee-bodies c = elim c.then-callee-bodies.branch [
  | then-callee-bodies-via-then-callee-bodies w ↦
      visit_far c.loop-first.way c.loop-first.invariant c.if-depth-eq0.false c.from-m.ensures c.end-end.ensures c.from.ensures c.next_call-at.ensures c.if-at-end.true c.token_at.ensures
      c.in-Call.is w.if-callee-bodies.true
  | then-callee-bodies-via-else-callee-bodies+then-ne w ↦
      visit_cycle c.loop-first.way c.loop-first.invariant c.if-depth-eq0.false c.from-m.ensures c.end-end.ensures c.from.ensures c.next_call-at.ensures c.if-at-end.true c.token_at.ensures
      c.in-Call.is w.if-callee-bodies.false (is_old _ w.if-ne.ensures)
]

pub bounds-way-depth : goal.bounds-way-depth
bounds-way-depth c = way_room c.loop-first.invariant c.if-callee-bodies.false (not_old _ c.if-ne.ensures)

pub loop-first-smaller-then-at-end : goal.loop-first-smaller-then-at-end
loop-first-smaller-then-at-end c = less_enter c.loop-first.invariant c.if-callee-bodies.false (not_old _ c.if-ne.ensures)

pub loop-first-preserved-then-at-end : goal.loop-first-preserved-then-at-end
loop-first-preserved-then-at-end c =
    visit_enter c.loop-first.way c.loop-first.invariant c.if-depth-eq0.false c.from-m.ensures c.end-end.ensures c.from.ensures c.next_call-at.ensures c.if-at-end.true c.token_at.ensures
    c.in-Call.is c.if-callee-bodies.false (not_old _ c.if-ne.ensures) c.visit_of-then-at-end.ensures

pub bounds-states-m : goal.bounds-states-m
bounds-states-m c = omega (arith, c.loop-first.invariant.few, visited c.loop-first.way c.loop-first.invariant c.if-depth-eq0.false c.from-m.ensures)

pub loop-first-smaller : goal.loop-first-smaller
loop-first-smaller c = search search_ways

pub loop-first-preserved : goal.loop-first-preserved
loop-first-preserved c =
    visit_leave c.loop-first.way c.loop-first.invariant c.if-depth-eq0.false c.from-m.ensures c.end-end.ensures c.from.ensures c.next_call-at.ensures c.if-at-end.false

pub returns : goal.returns
returns c = search search_ways
