-- The locals of the source's procedures, counted one procedure after the other.
use Rattle.std.specs.Prelude.{ℕ, zero, suc, ◌+◌, ◌*◌, ◌≤◌, ◌<◌, List, [], ◌∷◌, length}
use Rattle.std.proofs.Common.{arith}
use Rattle.value.specs.Lists.{at}
use Rattle.value.proofs.Laws.Lists.{Each}
use Rattle.format.specs.Syntax.{Proc, Plain}
use Rattle.format.proofs.Laws.Sound.{LocalsRight}
use Rattle.translation.specs.Placement.{locals_of, before}

-- those of a procedure come before those of a later one
pub before_next : (ps : List (Proc Plain)) (m k : ℕ) → m < k → before ps m + locals_of (at ps m) ≤ before ps k
before_next [] m k h = omega arith
before_next (p ∷ ps) m zero h = absurd (omega arith)
before_next (p ∷ ps) zero (suc k) h = omega arith
before_next (p ∷ ps) (suc m) (suc k) h = omega (arith, before_next ps m k (omega arith))

-- all together are not too many
pub before_most : (most : ℕ) (ps : List (Proc Plain)) → Each (LocalsRight most) ps → before ps (length ps) ≤ most * length ps
before_most most [] h = omega arith
before_most most (p ∷ ps) h = omega (arith, h.0.locals, before_most most ps h.1)
