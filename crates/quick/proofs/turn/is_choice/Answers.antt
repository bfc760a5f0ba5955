-- `quick::turn::is_choice` meets its contract.
use Rattle.quick.proofs.Choosing.{choice_second, choice_fourth}
use Rattle.quick.proofs.turn.is_choice.Goals as goal

pub bounds-t-at-2 : goal.bounds-t-at-2
bounds-t-at-2 c = choice_second c.requires c.if-t-at-ne-EQUAL.false

pub bounds-t-at-3 : goal.bounds-t-at-3
bounds-t-at-3 c = choice_fourth c.requires c.if-t-at-ne-EQUAL.false c.if-t-at-ne-LOCAL.false
