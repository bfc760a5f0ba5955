-- The cycle `+put_branch_put_inside_put_instr` meets its contracts.
use Rattle.std.proofs.Common.{length, ◌-◌, ◌+◌, ◌*◌}
use Rattle.emit.specs.Laws.Sources.{From}
use Rattle.simulation.proofs.inside.+put_branch_put_inside_put_instr.Given as goal

abbrev pub decreases-put_branch : goal.decreases-put_branch
decreases-put_branch l = 3 * l.depth + 1

abbrev pub decreases-put_inside : goal.decreases-put_inside
decreases-put_inside l = 3 * l.depth

abbrev pub decreases-put_instr : goal.decreases-put_instr
decreases-put_instr l = 3 * l.depth + 2

abbrev pub invariant-put_inside-loop-next : goal.invariant-put_inside-loop-next
invariant-put_inside-loop-next l = From l.t l.at l.depth l.s l.initial.out l.next l.out

abbrev pub decreases-put_inside-loop-next : goal.decreases-put_inside-loop-next
decreases-put_inside-loop-next l = length l.t - l.next
