-- `retable::statements::parse_call` meets its contract.
use borrow.Author.Rules.{rules}
use Rattle.retable.proofs.Arguing.{call_ways}
use Rattle.retable.proofs.statements.parse_call.Statement.{statement}
use Rattle.retable.proofs.statements.parse_call.Tie as tie

pub parse_call_spec : {M : Type 1} → statement M
parse_call_spec =
    tie.close
    (tie.spec
    (λ c κs. search rules)
    (λ c κs. search rules)
    (λ c κs. search rules)
    (λ c κs. search rules)
    (λ c κs. search rules)
    (λ c κs. search rules)
    (λ c. search rules)
    (λ c. search call_ways))
