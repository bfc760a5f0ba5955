-- `retable::whole::put_lengths` meets its contract.
use borrow.Author.Rules.{rules}
use Rattle.retable.proofs.Assembling.{trailer_ways}
use Rattle.retable.proofs.whole.put_lengths.Statement.{statement}
use Rattle.retable.proofs.whole.put_lengths.Tie as tie

pub put_lengths_spec : {M : Type 1} → statement M
put_lengths_spec = tie.close (tie.spec
    (λ c κs. search rules)
    (λ c κs. search rules)
    (λ c. search rules)
    (λ c. search trailer_ways))
