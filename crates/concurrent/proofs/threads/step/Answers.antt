-- `concurrent::threads::step` meets its contract.
use Rattle.std.proofs.Common.{arith}
use Rattle.atomic.proofs.Carrying.{handed_on}
use Rattle.concurrent.proofs.Stepping.{place_still, place_small, place_turning, place_blocked, place_moving, place_moves}
use Rattle.concurrent.proofs.threads.step.Goals as goal

pub returns-then-depths-i-eq0 : goal.returns-then-depths-i-eq0
returns-then-depths-i-eq0 c = place_still c.from-i.ensures c.if-depths-i-eq0.true

pub overflow_add-top : goal.overflow_add-top
overflow_add-top c = record { fits = omega (arith, place_small c.from-i.ensures c.requires c.if-depths-i-eq0.false) }

pub offset_bounds-labels-top : goal.offset_bounds-labels-top
offset_bounds-labels-top c = record { fits = omega (arith, place_small c.from-i.ensures c.requires c.if-depths-i-eq0.false) }

pub bounds-labels-top : goal.bounds-labels-top
bounds-labels-top c = omega (arith, place_small c.from-i.ensures c.requires c.if-depths-i-eq0.false)

pub overflow_mul-at : goal.overflow_mul-at
overflow_mul-at c = record { fits = omega (arith, place_small c.from-i.ensures c.requires c.if-depths-i-eq0.false) }

pub offset_bounds-map-label : goal.offset_bounds-map-label
offset_bounds-map-label c = record { fits = omega (arith, place_small c.from-i.ensures c.requires c.if-depths-i-eq0.false) }

pub bounds-map-label : goal.bounds-map-label
bounds-map-label c = omega (arith, place_small c.from-i.ensures c.requires c.if-depths-i-eq0.false)

pub overflow_mul-top-2 : goal.overflow_mul-top-2
overflow_mul-top-2 c = record { fits = omega (arith, place_small c.from-i.ensures c.requires c.if-depths-i-eq0.false) }

pub take_turn-requires : goal.take_turn-requires
take_turn-requires c = place_turning c.from-i.ensures c.requires c.if-depths-i-eq0.false

pub returns-in_err-turn : goal.returns-in_err-turn
returns-in_err-turn c =
    rw (handed_on _ c.from_residual.ensures.1)
    (place_blocked c.from-i.ensures c.if-depths-i-eq0.false c.take_turn.ensures c.in_err-turn.was)

pub move_on-requires : goal.move_on-requires
move_on-requires c =
    place_moving c.from-i.ensures c.if-depths-i-eq0.false c.take_turn.ensures c.in_ok-turn.was c.requires

pub returns : goal.returns
returns c =
    place_moves c.from-i.ensures c.if-depths-i-eq0.false c.take_turn.ensures c.in_ok-turn.was c.move_on.ensures
