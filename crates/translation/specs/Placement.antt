-- Where the locals of each procedure begin in the copy's row of locals: document 01, "The translation", first sentence, and document 02,
-- request 107.
use Rattle.std.specs.Prelude.{ℕ, zero, suc, ◌+◌, max, List, [], ◌∷◌, Bool, length, eqb}
use Rattle.value.specs.Maybe.{Maybe, is, nothing, pick}
use Rattle.value.specs.Lists.{at, any, upto}
use Rattle.format.specs.Syntax.{Proc}
use Rattle.format.specs.Rules.{callees_of}
use Rattle.translation.specs.declared.Mode.{Mode}
use Rattle.translation.specs.declared.Mode.TheVariants.{Own, Shared}

-- how many locals a procedure has, if there is one
abbrev pub locals_of : {A : Type 0} → Maybe (Proc A) → ℕ
locals_of (is q) = q.locals
locals_of nothing = 0

-- the locals of the procedures before m
abbrev pub before : {A : Type 0} → List (Proc A) → ℕ → ℕ
before [] m = 0
before (p ∷ ps) zero = 0
before (p ∷ ps) (suc m) = p.locals + before ps m

-- the largest f of some; 0 if there are none
unfoldable pub largest : (ℕ → ℕ) → List ℕ → ℕ
largest f [] = 0
largest f (x ∷ xs) = max (f x) (largest f xs)

-- those that pass
abbrev pub those : (ℕ → Bool) → List ℕ → List ℕ
those f [] = []
those f (x ∷ xs) = pick (f x) (x ∷ those f xs) (those f xs)

-- ---- placements

module _ {A : Type 0} (ps : List (Proc A)) where
  -- how many locals procedure m has
  abbrev pub locals_at : ℕ → ℕ
  locals_at m = locals_of (at ps m)

  -- the procedures whose bodies call m, as written:
  -- in dead code and atomic blocks too,
  -- and whether or not a thread ever comes there
  unfoldable pub callers : ℕ → List ℕ
  callers m = those (λ q. any (λ c. eqb c m) (callees_of ps q)) (upto 0 (length ps))

  -- the old placement: "one per local of each procedure in order"
  abbrev pub in_order : ℕ → ℕ
  in_order m = before ps m

  -- where procedure m begins, by k rounds
  unfoldable pub by_rounds : ℕ → ℕ → ℕ
  by_rounds zero m = 0
  by_rounds (suc k) m = largest (λ q. by_rounds k q + locals_at q) (callers m)

  -- the shared one: "a procedure's locals begin after the largest end among its callers' locals (at 0 without callers)"; as many rounds as
  -- there are procedures are enough: Laws.Placing.Rounds
  abbrev pub shared : ℕ → ℕ
  shared m = by_rounds (length ps) m

  -- the length of a row: the largest end
  abbrev pub row_length : (ℕ → ℕ) → ℕ
  row_length start = largest (λ m. start m + locals_at m) (upto 0 (length ps))

-- ---- "A caller of the translator names the mode; the old mode stays as it was"

-- where procedure m begins
abbrev pub start_in : {A : Type 0} → Mode → List (Proc A) → ℕ → ℕ
start_in Own ps = in_order ps
start_in Shared ps = shared ps

-- the length of the mode's row
abbrev pub row_of : {A : Type 0} → Mode → List (Proc A) → ℕ
row_of Own ps = before ps (length ps)
row_of Shared ps = row_length ps (shared ps)

-- the number of a mode
abbrev pub mode_number : Mode → ℕ
mode_number Own = 0
mode_number Shared = 1

-- the mode by its number, for callers that have no enum: 0 the old one, any other the shared one
abbrev pub mode_numbered : ℕ → Mode
mode_numbered zero = Own
mode_numbered (suc n) = Shared
