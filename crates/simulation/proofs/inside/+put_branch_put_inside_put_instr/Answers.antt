-- The cycle `+put_branch_put_inside_put_instr` meets its contracts.
use Rattle.simulation.proofs.Blocks.{block_ways}
use Rattle.simulation.proofs.inside.+put_branch_put_inside_put_instr.Goals as goal

pub put_branch-returns : goal.put_branch-returns
put_branch-returns t c = search block_ways

pub put_inside-returns-then-depth-eq0 : goal.put_inside-returns-then-depth-eq0
put_inside-returns-then-depth-eq0 t c = search block_ways

pub put_inside-returns-then-t-next-eq-END : goal.put_inside-returns-then-t-next-eq-END
put_inside-returns-then-t-next-eq-END t c = search block_ways

pub put_inside-loop-next-preserved : goal.put_inside-loop-next-preserved
put_inside-loop-next-preserved t c = search block_ways

pub put_inside-returns : goal.put_inside-returns
put_inside-returns t c = search block_ways

pub put_instr-returns-then-t-at-eq-IF : goal.put_instr-returns-then-t-at-eq-IF
put_instr-returns-then-t-at-eq-IF t c = search block_ways

pub put_instr-returns : goal.put_instr-returns
put_instr-returns t c = search block_ways
