-- `retable::statements::parse_select` meets its contract.
use borrow.Author.Rules.{rules}
use Rattle.retable.proofs.Arguing.{select_ways}
use Rattle.retable.proofs.statements.parse_select.Statement.{statement}
use Rattle.retable.proofs.statements.parse_select.Tie as tie

pub parse_select_spec : {M : Type 1} → statement M
parse_select_spec =
    tie.close
    (tie.spec
    (λ c κs. search rules)
    (λ c κs. search rules)
    (λ c κs. search rules)
    (λ c κs. search rules)
    (λ c κs. search rules)
    (λ c κs. search rules)
    (λ c. search rules)
    (λ c. search select_ways))
