-- `retable::exprs::key_at` meets its contract.
use borrow.Author.Rules.{rules}
use Rattle.retable.proofs.Naming.{name_ways}
use Rattle.retable.proofs.exprs.key_at.Statement.{statement}
use Rattle.retable.proofs.exprs.key_at.Tie as tie

pub key_at_spec : {M : Type 1} → statement M
key_at_spec =
    tie.close
    (tie.spec
    (λ c κs. search rules)
    (λ c. search name_ways)
    (λ c κs. search rules)
    (λ c κs. search rules)
    (λ c κs. search rules)
    (λ c. search name_ways))
