-- Deciding a select, way by way.
use Prim.Native.Nat.{ℕ, zero, suc, ◌+◌, ◌≤◌, ◌<◌}
use native.Mathlib.Omega.{arith}
use mathlib.Core.Path.{◌≡◌, refl, sym, ap, subst, ◌∙◌}
use mathlib.Core.List.{List, [], ◌∷◌}
use lib.ListN.{length, get_or, get_or-eq_default}
use Rattle.std.specs.Prelude.{Result, Ok, Err}
use lib.IntN.{ℤ, pos, negsuc}
use lib.Dec.{ltb}
use borrow.Author.Tests.{ltb-true, ltb-false}
use mir.Syntax.{w32}
use mir.Val.{SFits, of_z}
use types.Run.{OneOf, miss}
use denote.Enum.Declared.{tag_of}
use Rattle.value.specs.contracts.Value.{the_type}
use Rattle.value.specs.Try.{Try, has, lacks, ◌⟫◌}
use Rattle.value.specs.Values.{given}
use Rattle.basics.specs.Places.{number_at}
use Rattle.value.specs.declared.Value.{Value}
use Rattle.value.specs.declared.Value.TheVariants.{Whole, Location, Truth}
use Rattle.value.specs.declared.Reason.{Reason}
use Rattle.value.specs.declared.Reason.TheVariants.{WrongKind, FinishedThread}
use Rattle.value.proofs.Laws.Tests.{by_test}
use Rattle.engine.specs.declared.memory.Spot.{Spot}
use Rattle.decide.specs.declared.step.Step.TheVariants.{Select, Blocked}
use Rattle.semantics.specs.Memory.{Memory, cell}
use Rattle.semantics.specs.Copy.{running}
use Rattle.engine.specs.Words.{value_in}
use Rattle.engine.specs.Work.{most_locations, Found, Finds}
use Rattle.decide.specs.Decided.{number_of, or_blocked, chosen, Lies, SelectHere, Looks, Selects, Selectable}
use Rattle.semantics.proofs.Laws.Cells.{shape}
use Rattle.engine.specs.Laws.Holding.{cell_word, cell_held}

-- ---- "a number other than 0", as the code tests it

-- 0 is not
zero_bits : (z : ℤ) → SFits w32 z → of_z w32 z ≡ 0 → running (Whole z) ≡ lacks FinishedThread
zero_bits (pos zero) f e = refl
zero_bits (pos (suc n)) f e = absurd (omega arith)
zero_bits (negsuc n) f e = absurd (omega (arith, f.sfits))

-- others are
some_bits : (z : ℤ) → (of_z w32 z ≡ 0 → ⊥) → running (Whole z) ≡ has (Whole z)
some_bits (pos zero) n = absurd (n refl)
some_bits (pos (suc k)) n = refl
some_bits (negsuc k) n = refl

-- nor are other kinds
not_running : (v : Value) → OneOf (1 ∷ 2 ∷ []) (tag_of the_type v) → running v ≡ lacks WrongKind
not_running (Whole z) h = absurd (miss (1 ∷ 2 ∷ []) 0 tt h)
not_running (Location l) h = refl
not_running (Truth b) h = refl

-- ---- the location a

-- one that has a cell is one of those that there are
target_low : {t bs cs : List ℕ} {i a b : ℕ} {η : Memory} → SelectHere t i a b η → Lies bs cs η → a ≤ most_locations
target_low {a = a} {η = η} h m = by_test (ltb a (length (shape η)))
    (λ e. omega (arith, ltb-true a (length (shape η)) e, m.bases.few))
    (λ e. absurd (omega (arith, h.there, get_or-eq_default (shape η) 0 (ltb-false a (length (shape η)) e))))

pub select_target : {t bs cs : List ℕ} {i p : ℕ} → Selectable t bs cs i → p ≡ number_at 2 t (i + 1) → p ≤ most_locations
select_target h e = omega (arith, target_low h.here h.lies, h.here.target)

pub select_inside : {t bs cs : List ℕ} {i : ℕ} → Selectable t bs cs i → i + 5 ≤ length t
select_inside h = h.here.inside

-- ---- the cell b[e]

module _ {t bs cs : List ℕ} {i e l : ℕ} {s : Result Spot Reason} where
  -- where it is
  found : (a b : ℕ) (η : Memory) → l ≡ number_at 2 t (i + 3) → Finds bs l e s → SelectHere t i a b η → Lies bs cs η → Found η b e s
  found a b η q F h m = subst (λ l. Found η l e s) (q ∙ h.source) (F.found η m.bases)

  -- a cell that is found is one of the words
  pub select_word : {at : Spot} → Selectable t bs cs i → l ≡ number_at 2 t (i + 3) → Finds bs l e s → s ≡ Ok at → at.cell < length cs
  select_word h q F n =
      let w = subst (Found h.memory h.b e) n (found h.a h.b h.memory q F h.here h.lies) in
      cell_word h.lies.holds w.2

  module _ (q : l ≡ number_at 2 t (i + 3)) (F : Finds bs l e s) where
    -- there is none
    pub look_nowhere : {r : Reason} {x : Result Value Reason} → s ≡ Err r → x ≡ Err r → Looks t bs cs i e x
    look_nowhere n w = rw w (record { value = λ a b η h m. subst (Found η b e) n (found a b η q F h m) })

    -- what it holds
    pub look_found : {at : Spot} {x : Result Value Reason} → s ≡ Ok at → given x ≡ value_in (get_or cs at.cell 0) → Looks t bs cs i e x
    look_found n r = record {
      value = λ a b η h m.
          let w = subst (Found η b e) n (found a b η q F h m) in
          sym (r ∙ cell_held m.holds w.2);
    }

module _ {t bs cs : List ℕ} {i e : ℕ} {x : Result Value Reason} (L : Looks t bs cs i e x) where
  -- what the cell holds, by which the step goes
  select_by : (y : Try Value) → (given x ⟫ running) ≡ y → (a b : ℕ) (η : Memory) → SelectHere t i a b η → Lies bs cs η
      → chosen η a b e (i + 5) ≡ or_blocked (y ⟫ λ _. has (Select (number_of η a 0) e (i + 5)))
  select_by y g a b η h m =
      ap (λ x. or_blocked (x ⟫ running ⟫ λ _. has (Select (number_of η a 0) e (i + 5)))) (L.value a b η h m)
      ∙ ap (λ y. or_blocked (y ⟫ λ _. has (Select (number_of η a 0) e (i + 5)))) g

  -- nothing
  pub select_empty : {r : Reason} → x ≡ Err r → Selects t bs cs i e (Blocked r)
  select_empty {r} f = record { step = λ a b η h m. sym (select_by (lacks r) (rw f) a b η h m) }

  -- a value of another kind
  pub select_other : {v : Value} → x ≡ Ok v → OneOf (1 ∷ 2 ∷ []) (tag_of the_type v) → Selects t bs cs i e (Blocked WrongKind)
  select_other {v} f o = record { step = λ a b η h m. sym (select_by (lacks WrongKind) (rw f (not_running v o)) a b η h m) }

  -- 0
  pub select_zero : {v : Value} {z : ℤ} → x ≡ Ok v → v ≡ Whole z → SFits w32 z → of_z w32 z ≡ 0 → Selects t bs cs i e (Blocked FinishedThread)
  select_zero {z = z} f o w y = record { step = λ a b η h m. sym (select_by (lacks FinishedThread) (rw (f, o) (zero_bits z w y)) a b η h m) }

  -- another number
  pub select_some : {v : Value} {z : ℤ} {p u : ℕ} → x ≡ Ok v → v ≡ Whole z → (of_z w32 z ≡ 0 → ⊥) → p ≡ number_at 2 t (i + 1) → u ≡ get_or bs p 0
      → Selects t bs cs i e (Select u e (i + 5))
  select_some {z = z} {p} {u} f o y g d = record {
    step = λ a b η h m.
        let low : a ≤ most_locations = target_low h m in
        let from : u ≡ number_of η a 0 = d ∙ ap (λ a. get_or bs a 0) (g ∙ h.target) ∙ m.bases.starts a low ∙ omega arith in
        ap (λ u. Select u e (i + 5)) from ∙ sym (select_by (has (Whole z)) (rw (f, o) (some_bits z y)) a b η h m);
  }

-- one law for each way
pub ruleset look_ways = (select_inside, select_word, look_nowhere, look_found)

pub ruleset select_ways = (select_target, select_inside, select_empty, select_other, select_zero, select_some)
