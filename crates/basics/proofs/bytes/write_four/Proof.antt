-- `basics::bytes::write_four` meets its contract.
use borrow.Author.Rules.{rules}
use native.Mathlib.Omega.{arith}
use Prim.Native.Nat.{◌/◌, ◌%◌}
use lib.ListN.{length-set}
use Rattle.basics.proofs.Buffers.{four_stored}
use Rattle.basics.proofs.bytes.write_four.Statement.{statement}
use Rattle.basics.proofs.bytes.write_four.Tie as tie

pub write_four_spec : {M : Type 1} → statement M
write_four_spec =
    tie.close
    (tie.spec
    (λ c. search rules)
    (λ c. search rules)
    (λ c. search rules)
    (λ c. search rules)
    (λ c. simp length-set (omega arith))
    (λ c. search rules)
    (λ c. search rules)
    (λ c. simp length-set (omega arith))
    (λ c. search rules)
    (λ c. search rules)
    (λ c. simp length-set (omega arith))
    (λ c. search rules)
    (λ c.
    let a = c.args in
    let n = a.n in
    four_stored a.out.now a.at (n % 256) (n / 256 % 256) (n / 256 / 256 % 256) (n / 256 / 256 / 256 % 256)))
