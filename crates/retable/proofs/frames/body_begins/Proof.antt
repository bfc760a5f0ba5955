-- `retable::frames::body_begins` meets its contract.
use borrow.Author.Rules.{rules}
use Rattle.retable.proofs.Heading.{unsets_ways}
use Rattle.retable.proofs.frames.body_begins.Statement.{statement}
use Rattle.retable.proofs.frames.body_begins.Tie as tie

pub body_begins_spec : {M : Type 1} → statement M
body_begins_spec = tie.close (tie.spec
    (λ c κs. search rules)
    (λ c κs. search rules)
    (λ c. search unsets_ways)
    (λ c. search unsets_ways))
