-- The variables that expressions mention: document 01, "Loads go over distinct variables, rising".
use Rattle.std.specs.Prelude.{ℕ, zero, suc, List, [], ◌∷◌, Bool, true, false, eqb}
use Rattle.value.specs.Maybe.{either}
use Rattle.format.specs.Syntax.{Expr, constant, local, one, two}

-- does an expression mention x
abbrev pub mentioned : ℕ → Expr → Bool
mentioned x (constant v) = false
mentioned x (local y) = eqb x y
mentioned x (one o a) = mentioned x a
mentioned x (two o a b) = either (mentioned x a) (mentioned x b)

-- does one of some expressions
abbrev pub mentions : ℕ → List Expr → Bool
mentions x [] = false
mentions x (e ∷ es) = either (mentioned x e) (mentions x es)

-- x before the others, or not
abbrev pub keep : Bool → ℕ → List ℕ → List ℕ
keep true x xs = x ∷ xs
keep false x xs = xs

-- of the n variables from x on, those that some of es mention, rising
abbrev pub variables : ℕ → ℕ → List Expr → List ℕ
variables x zero es = []
variables x (suc n) es = keep (mentions x es) x (variables (suc x) n es)
