-- What the evaluator is asked and answers: the expression that stands at a place of a table, over a frame of locals.
use Rattle.std.specs.Prelude.{ℕ, ◌<◌, ◌≡◌, List, Bool, false, length, Result, Ok, Err}
use Rattle.value.specs.Maybe.{pick}
use Rattle.value.specs.Try.{Try, has, ◌⟫◌, provided}
use Rattle.value.specs.Values.{given}
use Rattle.value.specs.Marks.{Mark, whole_mark, location_mark, no_mark, yes_mark, local_mark, one_mark, two_mark, no_expr, mark_of, of_kind, decided}
use Rattle.basics.specs.Columns.{row_of, applied₁, applied₂}
use Rattle.value.specs.declared.Value.{Value}
use Rattle.value.specs.declared.Value.TheVariants.{Truth}
use Rattle.value.specs.declared.Reason.{Reason}
use Rattle.value.specs.declared.Reason.TheVariants.{WrongKind}
use Rattle.format.specs.Syntax.{Expr, constant, local, one, two}
use Rattle.format.proofs.Laws.Grammar.{ExprAt}
use Rattle.engine.specs.declared.evaluate.Valued.{Valued}
use Rattle.semantics.specs.Memory.{Env, eval}
use Rattle.engine.specs.Work.{Framed}

-- an operand of the kind that the table says for a mark
abbrev pub suited : Mark → Value → Try Value
suited k u = provided (of_kind (row_of k).takes u) WrongKind u

-- what the operator of a mark gives of an operand that may lack a value
unfoldable pub operated₁ : ℕ → Try Value → Try Value
operated₁ m a = a ⟫ applied₁ (mark_of m)

-- does the left operand alone decide the operator of a mark
abbrev pub decided_at : Mark → Value → Bool
decided_at (two_mark o) u = decided o u
decided_at (one_mark o) u = false
decided_at whole_mark u = false
decided_at location_mark u = false
decided_at no_mark u = false
decided_at yes_mark u = false
decided_at local_mark u = false
decided_at no_expr u = false

-- what it gives of two such; where the left one decides, the right one is not looked at
unfoldable pub operated₂ : ℕ → Try Value → Try Value → Try Value
operated₂ m a b = a ⟫ suited (mark_of m) ⟫ λ u. pick (decided_at (mark_of m) u) (has (Truth false)) (b ⟫ λ v. applied₂ (mark_of m) u v)

-- the right operand, which is judged after the left one's kind
abbrev pub right_judged : ℕ → Value → Result Value Reason → Result Value Reason
right_judged k u (Ok v) = Ok v
right_judged k u (Err r) = pick (of_kind k u) (Err r) (Err WrongKind)

-- each local of an expression is below n
abbrev pub Below : ℕ → Expr → Type 0
Below n (constant v) = Unit {0}
Below n (local x) = x < n
Below n (one o a) = Below n a
Below n (two o a b) = Below n a × Below n b

-- at i stands an expression at most d deep, over the locals of the frame at fb
pub record Ready (t ls : List ℕ) (fb i d : ℕ) : Type 0 where
  pub env : Env
  pub framed : Framed ls fb env
  pub e : Expr
  pub j : ℕ
  pub here : ExprAt t i d e j
  pub below : Below (length env) e

-- an answer, and where the expression ends
abbrev pub valued : Result Value Reason → ℕ → Valued
valued a j = record { answer = a; next = j }

-- its value, and where it ends
pub record Evaluates (t ls : List ℕ) (fb i d : ℕ) (r : Valued) : Type 0 where
  pub value : (h : Ready t ls fb i d) → given r.answer ≡ eval h.env h.e
  pub next : (h : Ready t ls fb i d) → r.next ≡ h.j
