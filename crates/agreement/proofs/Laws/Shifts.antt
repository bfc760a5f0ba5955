-- Expressions in the copy mean what they mean in the program.
use Rattle.std.specs.Prelude.{ℕ, ◌≡◌, refl, true}
use Rattle.std.proofs.Common.{eq-eqb}
use Rattle.value.proofs.Laws.Tests.{either_left, either_right}
use Rattle.format.specs.Syntax.{Expr, constant, local, one, two}
use Rattle.translation.specs.Code.{shift, mentioned, moved}
use Rattle.semantics.specs.Memory.{Env, lookup, eval}

-- ---- expressions

-- an expression moved to the copy's locals has the same value, if the variables that it mentions have
pub eval_shift : (ρ ρ' : Env) (e : Expr) → ((x : ℕ) → mentioned x e ≡ true → lookup ρ' (moved x) ≡ lookup ρ x) → eval ρ' (shift e) ≡ eval ρ e
eval_shift ρ ρ' (constant v) h = refl
eval_shift ρ ρ' (local x) h = rw (h x (eq-eqb x x refl))
eval_shift ρ ρ' (one o a) h = rw (eval_shift ρ ρ' a h)
eval_shift ρ ρ' (two o a b) h =
    rw (eval_shift ρ ρ' a (λ x m. h x (either_left _ m)), eval_shift ρ ρ' b (λ x m. h x (either_right (mentioned x a) m)))
