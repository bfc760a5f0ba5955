-- `retable::statements::parse_pointed` meets its contract.
use borrow.Author.Rules.{rules}
use Rattle.retable.proofs.Arguing.{write_ways}
use Rattle.retable.proofs.statements.parse_pointed.Statement.{statement}
use Rattle.retable.proofs.statements.parse_pointed.Tie as tie

pub parse_pointed_spec : {M : Type 1} → statement M
parse_pointed_spec =
    tie.close (tie.spec
    (λ c κs. search rules)
    (λ c κs. search rules)
    (λ c κs. search rules)
    (λ c. search rules)
    (λ c. search write_ways))
