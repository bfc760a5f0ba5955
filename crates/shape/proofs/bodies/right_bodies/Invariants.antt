-- `shape::bodies::right_bodies` meets its contract.
use Rattle.parse.specs.Ends.{kind_of}
use Rattle.shape.proofs.Rule4.{BodiesFrom}
use Rattle.shape.proofs.bodies.right_bodies.Given as goal

abbrev pub invariant-loop-procedure : goal.invariant-loop-procedure
invariant-loop-procedure l = BodiesFrom (kind_of l.kind) l.code l.body l.records l.count l.position l.procedure
