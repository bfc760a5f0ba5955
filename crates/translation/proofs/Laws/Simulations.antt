-- Procedures that simulate labels: how many, where labels lie, and what all of them together keep.
use Rattle.std.specs.Prelude.{ℕ, zero, suc, ◌+◌, ◌≤◌, ◌<◌, ◌≡◌, refl, List, [], ◌∷◌, true, false, length, ltb}
use Rattle.std.proofs.Common.{arith, length-append}
use Rattle.value.specs.Maybe.{there}
use Rattle.value.specs.Lists.{all}
use Rattle.value.proofs.Laws.Tests.{pass_both}
use Rattle.value.proofs.Laws.Lists.{Each, each_so, all_pass, each_in}
use Rattle.format.specs.Syntax.{Block, end, step, Proc, Program, Plain, sequential}
use Rattle.format.specs.Encode.{bodies_of}
use Rattle.format.specs.Labels.{count, counts, label, labels, first, end_of}
use Rattle.format.specs.Rules.{Here, all_allowed, after, callees, callees_of, limits}
use Rattle.format.proofs.Laws.Names.{Takes, Names}
use Rattle.format.proofs.Laws.Depths.{BodyRight}
use Rattle.format.proofs.Laws.Calls.{Calls, Reaches, direct, onward}
use Rattle.format.proofs.Laws.Sound.{LocalsRight}
use Rattle.format.specs.Decode.{max_nesting}
use Rattle.translation.specs.Layout.{Layout}
use Rattle.translation.specs.Code.{returns}
use Rattle.translation.specs.Translate.{simulating, each, simulations, body_of}
use Rattle.translation.proofs.Laws.Right.{Right}
use Rattle.translation.proofs.Laws.Labelled.{Simulates, length_each}

-- ---- labels

-- one procedure for each label
pub length_simulations : (G : Layout) (begin ends : ℕ → ℕ) (ps : List (Proc Plain)) (l m : ℕ)
    → length (simulations G begin ends m (labels l ps)) ≡ counts ps
length_simulations G begin ends [] l m = refl
length_simulations G begin ends (f ∷ ps) l m =
    omega (
      arith,
      length-append (each G begin m f.locals (label l f.body) (ends m))
          (simulating f.locals (returns G m f.locals) ∷ simulations G begin ends (suc m) (labels (l + suc (count f.body)) ps)),
      length_each G begin m f.locals f.body l (ends m),
      length_simulations G begin ends ps (l + suc (count f.body)) (suc m),
    )

-- an end label, and the label that a procedure begins with, is not above the last
pub end_below : (ps : List (Proc Plain)) (l m : ℕ) → end_of l ps m ≤ l + counts ps
end_below [] l m = omega arith
end_below (f ∷ ps) l zero = omega arith
end_below (f ∷ ps) l (suc m) = omega (arith, end_below ps (l + suc (count f.body)) m)

-- so is the one that it begins with
pub first_most : (ps : List (Proc Plain)) (k l m N : ℕ) → k ≤ N → l + counts ps ≤ N → first k (body_of (labels l ps) m) ≤ N
first_most [] k l m N h room = h
first_most (f ∷ ps) k l zero N h room = begins f.body
  where
    begins : (b : Block Plain) → first k (label l b) ≤ N
    begins end = h
    begins (step a i b) = omega arith
first_most (f ∷ ps) k l (suc m) N h room = first_most ps k (l + suc (count f.body)) m N h (omega arith)

-- ---- all of them

-- somewhere in the copy
abbrev somewhere : Here
somewhere = record { kind = sequential; proc = 0; inside = false }

module _ (p : Program Plain) where
  -- each has one parameter
  pub takes_one : (fs : List (Proc Plain)) (l : ℕ) → Each (Simulates p) fs → l < length fs → Takes fs l 1
  takes_one [] l h room = absurd (omega arith)
  takes_one (f ∷ fs) zero h room = h.0.params
  takes_one (f ∷ fs) (suc l) h room = takes_one fs l h.1 (omega arith)

  -- their locals are few
  pub locals_right : (fs : List (Proc Plain)) → Each (Simulates p) fs → Each (LocalsRight (limits sequential).locals) fs
  locals_right = each_so (λ f h. record { params = omega (arith, h.params, h.enough); locals = omega (arith, h.few) })

  -- nothing is too deep
  pub bodies_right_lem : (fs : List (Proc Plain)) → Each (Simulates p) fs → Each BodyRight (bodies_of fs)
  bodies_right_lem [] h = tt
  bodies_right_lem (f ∷ fs) h =
      let r : Right p f.locals somewhere (λ c. ⊥) max_nesting (λ x. ltb x f.params) f.body = h.0.body somewhere in
      (record { deep = r.deep; exprs = r.exprs }, bodies_right_lem fs h.1)

  -- each instruction is allowed
  pub bodies_allowed : (j : ℕ) (fs : List (Proc Plain)) → Each (Simulates p) fs → all_allowed sequential j (bodies_of fs) ≡ true
  bodies_allowed j [] h = refl
  bodies_allowed j (f ∷ fs) h =
      pass_both (h.0.body (record { kind = sequential; proc = j; inside = false })).allowed (bodies_allowed (suc j) fs h.1)

  -- each name means something
  pub bodies_named : (fs : List (Proc Plain)) → Each (Simulates p) fs → Each (λ f. Names p f.locals f.body) fs
  bodies_named fs h = each_so (λ f h. (h.body somewhere).named) fs h

  -- nothing is read before it is set
  pub bodies_set : (fs : List (Proc Plain)) → Each (Simulates p) fs → all (λ f. there (after (λ x. ltb x f.params) f.body)) fs ≡ true
  bodies_set fs h = all_pass _ fs (each_so (λ f h. (h.body somewhere).set) fs h)

  -- they direct nothing
  pub no_calls : (fs : List (Proc Plain)) (c : ℕ) → Each (Simulates p) fs → Each (λ c. ⊥) (callees_of fs c)
  no_calls [] c h = tt
  no_calls (f ∷ fs) zero h = (h.0.body somewhere).calls
  no_calls (f ∷ fs) (suc c) h = no_calls fs c h.1

  -- so nothing reaches itself if procedure 0 onward only them
  module _ (z : Proc Plain) (fs : List (Proc Plain)) (sims : Each (Simulates p) fs) (after : Each (λ c. 1 ≤ c) (callees z.body)) where
    -- the others direct nothing
    silent : (m c : ℕ) → 1 ≤ m → Calls (z ∷ fs) m c → ⊥
    silent zero c low h = omega arith
    silent (suc m) c low h = each_in _ (callees_of fs m) (no_calls fs m sims) h

    -- no way back
    pub no_cycle_lem : (m : ℕ) → Reaches (z ∷ fs) m m → ⊥
    no_cycle_lem zero (direct h) = omega (arith, each_in _ (callees z.body) after h)
    no_cycle_lem zero (onward {c = c} h r) = back c (each_in _ (callees z.body) after h) r
      where
        back : (c : ℕ) → 1 ≤ c → Reaches (z ∷ fs) c 0 → ⊥
        back c low (direct {n = n} h) = silent c n low h
        back c low (onward {c = d} h r) = silent c d low h
    no_cycle_lem (suc m) (direct h) = silent (suc m) (suc m) (omega arith) h
    no_cycle_lem (suc m) (onward {c = c} h r) = silent (suc m) c (omega arith) h
