-- `scan::calls::no_cycle` meets its contract.
use Rattle.scan.specs.Laws.CallSearch.{Search, procs_on, places_on, to_do}
use Rattle.scan.proofs.calls.no_cycle.Given as goal

abbrev pub invariant-loop-first : goal.invariant-loop-first
invariant-loop-first l = Search l.bodies.table.now l.bodies.procedures l.bodies.records l.states (procs_on l.way) (places_on l.way) l.depth l.first

abbrev pub decreases-loop-first : goal.decreases-loop-first
decreases-loop-first l = to_do l.bodies.procedures l.states l.depth l.first
