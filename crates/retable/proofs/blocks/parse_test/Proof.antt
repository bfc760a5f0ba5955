-- `retable::blocks::parse_test` meets its contract.
use borrow.Author.Rules.{rules}
use Rattle.retable.proofs.Nesting.{test_ways}
use Rattle.retable.proofs.blocks.parse_test.Statement.{statement}
use Rattle.retable.proofs.blocks.parse_test.Tie as tie

pub parse_test_spec : {M : Type 1} → statement M
parse_test_spec =
    tie.close (tie.spec
    (λ c κs. search rules)
    (λ c κs. search rules)
    (λ c κs. search rules)
    (λ c. search rules)
    (λ c. search test_ways))
