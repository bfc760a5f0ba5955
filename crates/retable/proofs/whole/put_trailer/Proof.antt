-- `retable::whole::put_trailer` meets its contract.
use borrow.Author.Rules.{rules}
use Rattle.retable.proofs.Assembling.{trailer_ways}
use Rattle.retable.proofs.whole.put_trailer.Statement.{statement}
use Rattle.retable.proofs.whole.put_trailer.Tie as tie

pub put_trailer_spec : {M : Type 1} → statement M
put_trailer_spec =
    tie.close
    (tie.spec
    (λ c. search rules)
    (λ c. search rules)
    (λ c. search rules)
    (λ c κs. search rules)
    (λ c κs. search rules)
    (λ c κs. search rules)
    (λ c κs. search rules)
    (λ c. search rules)
    (λ c. search trailer_ways))
