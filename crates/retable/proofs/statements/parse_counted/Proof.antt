-- `retable::statements::parse_counted` meets its contract.
use borrow.Author.Rules.{rules}
use Rattle.retable.proofs.Arguing.{call_ways}
use Rattle.retable.proofs.statements.parse_counted.Statement.{statement}
use Rattle.retable.proofs.statements.parse_counted.Tie as tie

pub parse_counted_spec : {M : Type 1} → statement M
parse_counted_spec =
    tie.close (tie.spec
    (λ c κs. search rules)
    (λ c κs. search rules)
    (λ c κs. search rules)
    (λ c. search rules)
    (λ c. search call_ways))
