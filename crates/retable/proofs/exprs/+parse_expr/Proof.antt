-- The parser of expressions meets its contract.
use borrow.Author.Rules.{rules}
use Rattle.retable.proofs.Operators.{expr_ways}
use Prim.Native.Nat.{ℕ, ◌<◌}
use borrow.Fn.Kinds.{In}
use borrow.Fn.PlainCycle.{Measures, is, falls, and}
use Rattle.retable.proofs.exprs.parse_expr.Reads as parse-expr
use Rattle.retable.proofs.exprs.parse_expr.Kinds as parse-expr-kinds
use Rattle.retable.proofs.exprs.+parse_expr.Lts-parse_expr as parse-expr-lts
use Rattle.basics.proofs.marks.operands.Reads as operands-reads
use Rattle.retable.proofs.exprs.key_at.Reads as key-at-reads
use Rattle.retable.proofs.exprs.name_length.Reads as name-length-reads
use Rattle.retable.proofs.exprs.parse_leaf.Reads as parse-leaf-reads
use Rattle.retable.proofs.pieces.skip.Reads as skip-reads
use Rattle.writer.proofs.bytes.put.Reads as put_reads
use Rattle.retable.proofs.exprs.+parse_expr.{statement}
use Rattle.retable.proofs.exprs.+parse_expr.Tie.{close}

abbrev μ-parse-expr : Measures 2 parse-expr-kinds.ps ℕ
μ-parse-expr κs a = a.1.1.0

abbrev parse-expr-at : ℕ → In 2 parse-expr-kinds.ps
parse-expr-at t =
    and 2 parse-expr-kinds.ps (is 2 parse-expr-kinds.ps μ-parse-expr t) parse-expr.Pre

abbrev parse-expr-below : ℕ → In 2 parse-expr-kinds.ps
parse-expr-below t =
    and 2 parse-expr-kinds.ps (falls 2 parse-expr-kinds.ps ◌<◌ μ-parse-expr t) parse-expr.Pre

abbrev parse-expr-calls : ℕ → parse-expr-lts.Claims
parse-expr-calls t = (
  key-at-reads.Asked,
  key-at-reads.Learnt,
  operands-reads.Asked,
  operands-reads.Learnt,
  parse-leaf-reads.Asked,
  parse-leaf-reads.Learnt,
  put_reads.Asked,
  put_reads.Learnt,
  name-length-reads.Asked,
  name-length-reads.Learnt,
  skip-reads.Asked,
  skip-reads.Learnt,
  parse-expr-below t,
  parse-expr.Post,
)

pub +parse_expr_spec : {M : Type 1} → statement M
+parse_expr_spec = close μ-parse-expr λ t. parse-expr-lts.spec (parse-expr-calls t)
    (parse-expr-at t)
    parse-expr.Post
    (λ c. search expr_ways)
    (λ c κs. search rules)
    (λ c κs. search rules)
    (λ c κs. search rules)
    (λ c. search rules)
    (λ c. search expr_ways)
    (λ c κs. search rules)
    (λ c κs. search rules)
    (λ c κs. search rules)
    (λ c. search rules)
    (λ c κs. search rules)
    (λ c κs. search rules)
    (λ c. search rules)
    (λ c. search expr_ways)
    (λ c κs. search rules)
    (λ c. search rules)
    (λ c κs. search rules)
    (λ c κs. search rules)
    (λ c. search rules)
    (λ c. search expr_ways)
