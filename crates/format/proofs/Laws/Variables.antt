-- The variables of expressions are among the procedure's locals: to look for them among more finds the same.
use Rattle.std.specs.Prelude.{ℕ, zero, suc, ◌+◌, ◌-◌, ◌≤◌, ◌≡◌, refl, List, [], ◌∷◌, false}
use Rattle.std.proofs.Common.{arith, ap, ap₂, ◌∙◌, ne_eqb}
use Rattle.value.specs.Maybe.{either}
use Rattle.value.proofs.Laws.Lists.{Each}
use Rattle.format.specs.Syntax.{Expr, constant, local, one, two}
use Rattle.format.specs.Variables.{mentioned, mentions, variables}
use Rattle.format.proofs.Laws.Names.{InRange}
use Rattle.format.specs.Rules.{max_locals}

-- no variable beyond the locals is mentioned
beyond : (X M : ℕ) (e : Expr) (x : ℕ) → InRange X M e → X ≤ x → mentioned x e ≡ false
beyond X M (constant v) x i h = refl
beyond X M (local y) x i h = ne_eqb x y (λ e. omega arith)
beyond X M (one o a) x i h = beyond X M a x i h
beyond X M (two o a b) x i h = ap₂ either (beyond X M a x i.0 h) (beyond X M b x i.1 h)

-- nor by several expressions
all_beyond : (X M : ℕ) (es : List Expr) (x : ℕ) → Each (InRange X M) es → X ≤ x → mentions x es ≡ false
all_beyond X M [] x i h = refl
all_beyond X M (e ∷ es) x i h = ap₂ either (beyond X M e x i.0 h) (all_beyond X M es x i.1 h)

-- so there are none
none_beyond : (X M : ℕ) (es : List Expr) (x n : ℕ) → Each (InRange X M) es → X ≤ x → variables x n es ≡ []
none_beyond X M es x zero i h = refl
none_beyond X M es x (suc n) i h = rw (all_beyond X M es x i h) (none_beyond X M es (suc x) n i (omega arith))

-- the variables of expressions of a procedure with X locals, from x on
some_beyond : (X M : ℕ) (es : List Expr) (x n k : ℕ) → Each (InRange X M) es → X ≤ x + n → variables x (n + k) es ≡ variables x n es
some_beyond X M es x zero k i h =
    let same : 0 + k ≡ k = omega arith in
    rw same (none_beyond X M es x k i (omega arith))
some_beyond X M es x (suc n) k i h =
    let same : suc n + k ≡ suc (n + k) = omega arith in
    rw (same, some_beyond X M es (suc x) n k i (omega arith))

-- those of all locals that a procedure can have are those of the locals that it has
pub variables_most : (X M : ℕ) (es : List Expr) → Each (InRange X M) es → X ≤ max_locals → variables 0 max_locals es ≡ variables 0 X es
variables_most X M es i h =
    let same : max_locals ≡ X + (max_locals - X) = omega arith in
    ap (λ (n : ℕ). variables 0 n es) same ∙ some_beyond X M es 0 X (max_locals - X) i (omega arith)
