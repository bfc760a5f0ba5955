-- Numbers, expressions and arguments in the text, with what follows them.
use Rattle.std.specs.Prelude.{ℕ, ◌+◌, ◌^◌, ◌≤◌, ◌<◌, ◌≡◌, refl, List, [], ◌∷◌, ◌++◌, true, false, length}
use Rattle.std.proofs.Common.{arith, sym}
use Rattle.std.proofs.Math.Path.{subst}
use Rattle.std.proofs.Math.ListN.{get_or}
use Rattle.value.specs.Values.{not, neg, add, sub, mul, less, equal, and}
use Rattle.value.specs.declared.Value.TheVariants.{Whole, Location, Truth}
use Rattle.value.proofs.Laws.Lists.{Each}
use Rattle.format.specs.Syntax.{Expr, constant, local, one, two}
use Rattle.format.specs.Decode.{max_depth}
use Rattle.format.specs.Encode.{each}
use Rattle.format.proofs.Laws.Fits.{ExprFits}
use Rattle.format.proofs.Laws.Stands.{Stands, first, front, back}
use Rattle.ctext.specs.Pieces.{say, decimal}
use Rattle.ctext.specs.Text.{expr, listed}
use Rattle.ctext.proofs.Laws.Numbers.{Digit, Stops, stops_at}
use Rattle.ctext.proofs.Laws.ExprText.{behind, ExprText}

-- ---- numbers and expressions, with what follows

-- a number's text; no digit follows
pub record NumberText (x : List ℕ) (i n j : ℕ) : Type 0 where
  pub stands : Stands x i (decimal n) j
  pub fits : n < 2 ^ 16
  pub stops : Stops x j

-- where no digit stands
pub stops_by : {x : List ℕ} {j c : ℕ} {r : List ℕ} {k : ℕ} → Stands x j (c ∷ r) k → (Digit c → ⊥) → Stops x j
stops_by s other = record { none = λ d. other (subst Digit (first s) d) }

module _ {x : List ℕ} {i : ℕ} where
  -- a number, and what follows it
  pub take_number : (n : ℕ) {c : ℕ} {r : List ℕ} {j : ℕ} → Stands x i (decimal n ++ (c ∷ r)) j → n < 2 ^ 16 → (Digit c → ⊥)
      → NumberText x i n (i + length (decimal n)) × Stands x (i + length (decimal n)) (c ∷ r) j
  take_number n {c} {r} s f other =
      let after = back (decimal n) (c ∷ r) s in
      (record { stands = front (decimal n) (c ∷ r) s; fits = f; stops = stops_by after other }, after)

  -- an expression, and what follows it
  pub take_expr : (e : Expr) {c : ℕ} {r : List ℕ} {j : ℕ} → Stands x i (expr e ++ (c ∷ r)) j → ExprFits max_depth e → (Digit c → ⊥)
      → ExprText x i max_depth 3 e (i + length (expr e)) × Stands x (i + length (expr e)) (c ∷ r) j
  take_expr e {c} {r} s f other =
      let after = back (expr e) (c ∷ r) s in
      (record { stands = front (expr e) (c ∷ r) s; fits = f; stops = stops_by after other }, after)

-- ---- arguments

-- expressions with a piece between each two, and a parenthesis behind them
pub record ArgsText (x : List ℕ) (i : ℕ) (es : List Expr) (j : ℕ) : Type 0 where
  pub stands : Stands x i (listed (say ",\n") expr es) j
  pub close : get_or x j 0 ≡ 41
  pub fits : Each (ExprFits max_depth) es

-- those after the first
pub record MoreText (x : List ℕ) (i : ℕ) (es : List Expr) (j : ℕ) : Type 0 where
  pub stands : Stands x i (each (λ e. say ",\n" ++ expr e) es) j
  pub close : get_or x j 0 ≡ 41
  pub fits : Each (ExprFits max_depth) es

-- the first argument, and those after it
pub record SomeIn (x : List ℕ) (i : ℕ) (es : List Expr) (j : ℕ) : Type 0 where
  pub e : Expr
  pub rest : List Expr
  pub is : es ≡ e ∷ rest
  pub k : ℕ
  pub here : ExprText x i max_depth 3 e k
  pub after : MoreText x k rest j

-- an expression begins with a letter
pub expr_letter : {x : List ℕ} {i d n : ℕ} (e : Expr) {j : ℕ} → ExprText x i d n e j → 100 ≤ get_or x i 0
unfolding say
expr_letter (constant (Whole z)) h = omega (arith, first h.stands)
expr_letter (constant (Location l)) h = omega (arith, first h.stands)
expr_letter (constant (Truth true)) h = omega (arith, first h.stands)
expr_letter (constant (Truth false)) h = omega (arith, first h.stands)
expr_letter (local v) h = omega (arith, first h.stands)
expr_letter (one not a) h = omega (arith, first h.stands)
expr_letter (one neg a) h = omega (arith, first h.stands)
expr_letter (two add a b) h = omega (arith, first h.stands)
expr_letter (two sub a b) h = omega (arith, first h.stands)
expr_letter (two mul a b) h = omega (arith, first h.stands)
expr_letter (two less a b) h = omega (arith, first h.stands)
expr_letter (two equal a b) h = omega (arith, first h.stands)
expr_letter (two and a b) h = omega (arith, first h.stands)

-- no digit stands before more arguments
more_stops : {x : List ℕ} {i : ℕ} (es : List Expr) {j : ℕ} → MoreText x i es j → Stops x i
unfolding say
more_stops {x} {i} [] {j} h =
    let here : i ≡ j = omega (arith, h.stands.ends) in
    subst (Stops x) (sym here) (stops_at 41 h.close (omega arith))
more_stops (e ∷ es) h = stops_at 44 (first h.stands) (omega arith)

-- an argument, and those after it
some_parts : {x : List ℕ} {i : ℕ} (e : Expr) (es : List Expr) {j : ℕ} → Stands x i (expr e ++ each (λ e. say ",\n" ++ expr e) es) j → get_or x j 0 ≡ 41
    → Each (ExprFits max_depth) (e ∷ es) → ExprText x i max_depth 3 e (i + length (expr e)) × MoreText x (i + length (expr e)) es j
some_parts {x} {i} e es {j} s c f =
    let rest : List ℕ = each (λ e. say ",\n" ++ expr e) es in
    let after : MoreText x (i + length (expr e)) es j = record { stands = back (expr e) rest s; close = c; fits = f.1 } in
    (record { stands = front (expr e) rest s; fits = f.0; stops = more_stops es after }, after)

-- the first of some
pub args_parts : {x : List ℕ} {i : ℕ} {e : Expr} {es : List Expr} {j : ℕ} → ArgsText x i (e ∷ es) j
    → ExprText x i max_depth 3 e (i + length (expr e)) × MoreText x (i + length (expr e)) es j
args_parts {e = e} {es} h = some_parts e es h.stands h.close h.fits

-- the next of some
pub more_parts : {x : List ℕ} {i : ℕ} {e : Expr} {es : List Expr} {j : ℕ} → MoreText x i (e ∷ es) j
    → ExprText x (i + 2) max_depth 3 e (i + 2 + length (expr e)) × MoreText x (i + 2 + length (expr e)) es j
unfolding say
more_parts {e = e} {es} h =
    some_parts e es (behind (say ",\n") (expr e ++ each (λ e. say ",\n" ++ expr e) es) 2 refl h.stands) h.close h.fits

module _ {x : List ℕ} {i : ℕ} where
  -- no more of them
  pub more_none : {es : List Expr} {j : ℕ} → MoreText x i es j → (get_or x i 0 ≡ 44 → ⊥) → (es ≡ []) × (j ≡ i)
  unfolding say
  more_none {es = []} h other = (refl, omega (arith, h.stands.ends))
  more_none {es = e ∷ es} h other = absurd (other (first h.stands))

  -- one more
  pub more_some : {es : List Expr} {j : ℕ} → MoreText x i es j → get_or x i 0 ≡ 44 → SomeIn x (i + 2) es j
  unfolding say
  more_some {es = []} {j} h q =
      let here : i ≡ j = omega (arith, h.stands.ends) in
      absurd (omega (arith, q, subst (λ i. get_or x i 0 ≡ 41) (sym here) h.close))
  more_some {es = e ∷ es} {j} h q =
      let parts = more_parts h in
      record { e = e; rest = es; is = refl; k = _; here = parts.0; after = parts.1 }

  -- none at all
  pub args_none : {es : List Expr} {j : ℕ} → ArgsText x i es j → get_or x i 0 ≡ 41 → (es ≡ []) × (j ≡ i)
  args_none {es = []} h q = (refl, omega (arith, h.stands.ends))
  args_none {es = e ∷ es} {j} h q =
      absurd (omega (arith, q, expr_letter e (args_parts h).0))

  -- some
  pub args_some : {es : List Expr} {j : ℕ} → ArgsText x i es j → (get_or x i 0 ≡ 41 → ⊥) → SomeIn x i es j
  args_some {es = []} {j} h other =
      let here : i ≡ j = omega (arith, h.stands.ends) in
      absurd (other (subst (λ i. get_or x i 0 ≡ 41) (sym here) h.close))
  args_some {es = e ∷ es} h other =
      let parts = args_parts h in
      record { e = e; rest = es; is = refl; k = _; here = parts.0; after = parts.1 }
