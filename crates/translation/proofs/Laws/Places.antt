-- The locations of the copy.
use Rattle.std.specs.Prelude.{ℕ, zero, suc, ◌+◌, ◌*◌, ◌≤◌, ◌<◌, ◌≡◌, List, [], ◌∷◌, ◌++◌, length, replicate}
use Rattle.std.proofs.Common.{arith, mul-le-mul, ◌∙◌, length-append}
use Rattle.std.proofs.lemmas.List.{length-replicate}
use Rattle.value.specs.Maybe.{is}
use Rattle.value.specs.Lists.{at, sum}
use Rattle.value.proofs.Laws.Lists.{at_below, Each, each_append}
use Rattle.format.specs.Syntax.{Proc, Program, Plain, concurrent, sequential}
use Rattle.format.proofs.Laws.Sound.{Sound, Within}
use Rattle.format.specs.Rules.{limits, max_size, max_locals}
use Rattle.translation.specs.Placement.{before}
use Rattle.translation.specs.Layout.{layout_by, sizes_by}
use Rattle.translation.proofs.Laws.Procs.{before_most}
use Rattle.translation.proofs.Laws.Placing.Modes.{Placed}

-- sums of sizes
sum_append : (xs ys : List ℕ) → sum (xs ++ ys) ≡ sum xs + sum ys
sum_append [] ys = omega arith
sum_append (x ∷ xs) ys = omega (arith, sum_append xs ys)

-- one size many times
sum_replicate : (n a : ℕ) → sum (replicate n a) ≡ n * a
sum_replicate zero a = omega arith
sum_replicate (suc n) a = omega (arith, sum_replicate n a)

-- one size many times
each_replicate : (P : ℕ → Type 0) (n a : ℕ) → P a → Each P (replicate n a)
each_replicate P zero a h = tt
each_replicate P (suc n) a h = (h, each_replicate P n a h)

-- how many locations have size T
abbrev new : Program Plain → ℕ → ℕ
new q R = 1 + length q.procs + R

-- the locals are placed so, in a row that is no longer than that of all locals in order
module _ (q : Program Plain) (start : ℕ → ℕ) (R : ℕ) (D : Placed q.procs start R) (short : R ≤ before q.procs (length q.procs)) where
  -- the source's, ptid, pct, one "from" for each procedure, the row of locals
  pub places_count : length (sizes_by R q) ≡ length q.sizes + 2 + length q.procs + R
  places_count = length-append q.sizes _ ∙ rw (length-replicate (new q R) (length q.mains)) (omega arith)

  module _ (m : ℕ) (f : Proc Plain) (e : at q.procs m ≡ is f) where
    -- the "from" of a procedure is one of them
    pub from_in : (layout_by start q).from m < length (sizes_by R q)
    from_in = omega (arith, places_count, at_below q.procs m e)

    -- and the location of each local
    pub home_in : (x : ℕ) → x < f.locals → (layout_by start q).home m x < length (sizes_by R q)
    home_in x h = let room : start m + f.locals ≤ R = rw e at (D.ends m (at_below q.procs m e)) in omega (arith, places_count)

  module _ (sound : Sound concurrent q) where
    -- pct, and for each procedure a "from" and its locals
    abbrev new_most : ℕ
    new_most = 1 + (limits concurrent).procs * suc max_locals

    -- there are not too many
    new_most_lem : new q R ≤ new_most
    new_most_lem = omega (arith, short, sound.procs.high, before_most max_locals q.procs sound.locals)

    -- all locations
    pub places_most : length (sizes_by R q) ≤ (limits sequential).places
    places_most = omega (arith, places_count, sound.places, new_most_lem)

    -- each size is right
    pub sizes_right : Each (Within 1 max_size) (sizes_by R q)
    sizes_right =
        each_append (Within 1 max_size) q.sizes _ sound.sizes (
          omega arith,
          each_replicate (Within 1 max_size) (new q R) (length q.mains)
              (record { low = sound.threads.low; high = omega (arith, sound.threads.high) }),
        )

    -- and so are all together
    pub cells_right : sum (sizes_by R q) ≤ (limits sequential).cells
    cells_right =
        omega (
          arith,
          sum_append q.sizes (1 ∷ replicate (new q R) (length q.mains)),
          sum_replicate (new q R) (length q.mains),
          mul-le-mul {n₁ = new q R} {m₁ = length q.mains} {n₂ = new_most} {m₂ = (limits concurrent).threads} new_most_lem sound.threads.high,
          sound.cells,
        )
