-- `retable::whole::put_counts` meets its contract.
use borrow.Author.Rules.{rules}
use Rattle.retable.proofs.Assembling.{trailer_ways}
use Rattle.retable.proofs.whole.put_counts.Statement.{statement}
use Rattle.retable.proofs.whole.put_counts.Tie as tie

pub put_counts_spec : {M : Type 1} → statement M
put_counts_spec =
    tie.close (tie.spec
    (λ c κs. search rules)
    (λ c κs. search rules)
    (λ c κs. search rules)
    (λ c. search rules)
    (λ c. search trailer_ways))
