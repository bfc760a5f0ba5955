-- `retable::whole::put_record` meets its contract.
use borrow.Author.Rules.{rules}
use Rattle.retable.proofs.Assembling.{definition_ways}
use Rattle.retable.proofs.whole.put_record.Statement.{statement}
use Rattle.retable.proofs.whole.put_record.Tie as tie

pub put_record_spec : {M : Type 1} → statement M
put_record_spec =
    tie.close (tie.spec
    (λ c κs. search rules)
    (λ c κs. search rules)
    (λ c κs. search rules)
    (λ c. search rules)
    (λ c. search definition_ways))
