-- One law for each way through the readers of blocks and instructions.
use Rattle.std.specs.Prelude.{Option, Some, None}
use Prim.Native.Nat.{ℕ, zero, suc, ◌+◌, ◌-◌, ◌≤◌, ◌<◌}
use native.Mathlib.Omega.{arith}
use mathlib.Core.Path.{◌≡◌, refl, sym, ◌∙◌}
use mathlib.Core.List.{List, [], ◌∷◌}
use mathlib.Core.Bool.{Bool, true, false}
use lib.ListN.{length, get_or, drop, length-drop, drop_of_length-le}
use lib.Seq.{drop-cons}
use Rattle.value.specs.Maybe.{is, ◌>>=◌, both}
use Rattle.value.proofs.Laws.Tests.{never}
use Rattle.format.specs.Syntax.{Expr, while, if, atomic, step}
use Rattle.format.specs.Decode.{expr, instr, block, max_depth}
use Rattle.format.specs.Rules.{Here, allowed, allowed_i, plainly, is_concurrent}
use Rattle.parse.specs.Ends.{end_of, check, inside_of, ReadsExpr, ReadsInstr, ReadsBlock, ReadsPlain}
use Rattle.format.proofs.Laws.Reading.{known_is}
use Rattle.format.proofs.Laws.Rests.{expr_leaves, instr_leaves, instr_takes, block_leaves, block_goes_on}
use Rattle.parse.proofs.Chains.{ends_then, ends_none, bind_assoc, passed_at, passed_none, passed_made, never_passes, fails_behind}
use Rattle.parse.proofs.Plain.{instr_at}

-- ---- instructions

-- where no atomic block may stand
atomic_not : (c p x : Bool) → both c p ≡ false → both c (both p x) ≡ false
atomic_not false p x e = refl
atomic_not true false x e = refl
atomic_not true true x e = absurd (never (sym e))

-- where one may
atomic_may : (c p x : Bool) → both c p ≡ true → both c (both p x) ≡ x
atomic_may false p x e = absurd (never e)
atomic_may true false x e = absurd (never e)
atomic_may true true x e = refl

module _ (t : List ℕ) (i d : ℕ) (h : Here) where
  -- past the end
  pub instr_past : length t ≤ i → ReadsInstr t i d h None
  instr_past l = let none : drop i t ≡ [] = drop_of_length-le t {i = i} l in record { same = rw none }

  -- without blocks
  pub instr_plain : {r : Option ℕ} → ReadsPlain t i h r → (get_or t i 0 ≡ 0x23 → ⊥) → (get_or t i 0 ≡ 0x24 → ⊥) → (get_or t i 0 ≡ 0x26 → ⊥)
      → ReadsInstr t i d h r
  instr_plain R n₃ n₄ n₆ = R.gives d n₃ n₄ n₆

  module _ (inside : i < length t) where
    -- a while inside an atomic block
    pub while_inside : get_or t i 0 ≡ 0x23 → h.inside ≡ true → ReadsInstr t i d h None
    while_inside q out = record {
      same = sym
          (rw (instr_at t i d 0x23 inside q)
          (fails_behind t (expr max_depth (drop (i + 1) t)) _ (allowed_i h) λ e r. never_passes t (block d r) (while e) (allowed_i h) (λ b. rw out)));
    }

    -- one without a test
    pub while_cut : {f : Option ℕ} → get_or t i 0 ≡ 0x23 → f ≡ None → ReadsExpr t (i + 1) max_depth f → ReadsInstr t i d h None
    while_cut q e R = record {
      same = rw (instr_at t i d 0x23 inside q, bind_assoc (expr max_depth (drop (i + 1) t)))
          (ends_none t (expr max_depth (drop (i + 1) t)) _ (sym e ∙ R.same));
    }

    -- one
    pub reads_while : {f r : Option ℕ} {k : ℕ} → get_or t i 0 ≡ 0x23 → h.inside ≡ false → f ≡ Some k → ReadsExpr t (i + 1) max_depth f → ReadsBlock t k d h r
        → ReadsInstr t i d h r
    reads_while {k = k} q out e F R = record {
      same =
          rw (instr_at t i d 0x23 inside q, bind_assoc (expr max_depth (drop (i + 1) t)))
          (ends_then t (i + 1) (expr max_depth (drop (i + 1) t)) _ (expr_leaves max_depth (drop (i + 1) t)) (sym e ∙ F.same)
          (λ e. R.same ∙ sym (passed_made (allowed h) t (block d (drop k t)) (while e) (allowed_i h) (λ b. rw out))));
    }

    -- an if without a test
    pub if_cut : {f : Option ℕ} → get_or t i 0 ≡ 0x24 → f ≡ None → ReadsExpr t (i + 1) max_depth f → ReadsInstr t i d h None
    if_cut q e R = record {
      same = rw (instr_at t i d 0x24 inside q, bind_assoc (expr max_depth (drop (i + 1) t)))
          (ends_none t (expr max_depth (drop (i + 1) t)) _ (sym e ∙ R.same));
    }

    -- behind the test, two blocks
    if_then : {f r : Option ℕ} {k : ℕ} → get_or t i 0 ≡ 0x24 → f ≡ Some k → ReadsExpr t (i + 1) max_depth f
        → ((e : Expr) → r ≡ end_of t ((block d (drop k t) >>= λ (b, q). block d q >>= λ (c, q). is (if e b c, q)) >>= check (allowed_i h)))
        → ReadsInstr t i d h r
    if_then q e F next = record {
      same =
          rw (instr_at t i d 0x24 inside q, bind_assoc (expr max_depth (drop (i + 1) t)))
          (ends_then t (i + 1) (expr max_depth (drop (i + 1) t)) _ (expr_leaves max_depth (drop (i + 1) t)) (sym e ∙ F.same) next);
    }

    -- without a first block
    pub then_cut : {f g : Option ℕ} {k : ℕ} → get_or t i 0 ≡ 0x24 → f ≡ Some k → ReadsExpr t (i + 1) max_depth f → g ≡ None → ReadsBlock t k d h g
        → ReadsInstr t i d h None
    then_cut {k = k} q e F n G = if_then q e F λ e.
        passed_none (allowed h) t (block d (drop k t)) (sym n ∙ G.same)
        (λ missed. rw missed)
        (λ b r found bad. rw found (sym (never_passes t (block d r) (if e b) (allowed_i h) (λ c. rw bad))))

    -- one
    pub reads_if : {f g r : Option ℕ} {k l : ℕ} → get_or t i 0 ≡ 0x24 → f ≡ Some k → ReadsExpr t (i + 1) max_depth f → g ≡ Some l → ReadsBlock t k d h g
        → ReadsBlock t l d h r → ReadsInstr t i d h r
    reads_if {k = k} {l} q e F n G R = if_then q e F λ e.
        let first = passed_at (allowed h) t k (block d (drop k t)) (block_leaves d (drop k t)) (sym n ∙ G.same) in
        rw first.1 (R.same ∙ sym (passed_made (allowed h) t (block d (drop l t)) (if e first.0) (allowed_i h) (λ c. rw first.2)))

    -- atomic where it may not stand
    pub no_atomic : {b : Bool} → get_or t i 0 ≡ 0x26 → b ≡ both (is_concurrent h.kind) (plainly h) → b ≡ false → ReadsInstr t i d h None
    no_atomic q e f = record {
      same = sym
          (rw (instr_at t i d 0x26 inside q)
          (never_passes t (block d (drop (i + 1) t)) atomic (allowed_i h) (λ b. atomic_not (is_concurrent h.kind) (plainly h) _ (sym e ∙ f))));
    }

    -- and where it may
    pub reads_atomic : {b : Bool} {g : Here} {r : Option ℕ} → get_or t i 0 ≡ 0x26 → b ≡ both (is_concurrent h.kind) (plainly h) → b ≡ true
        → g ≡ inside_of h → ReadsBlock t (i + 1) d g r → ReadsInstr t i d h r
    reads_atomic {g = g} q e f n R = record {
      same =
          rw (instr_at t i d 0x26 inside q)
          (R.same
          ∙ sym (passed_made (allowed g) t (block d (drop (i + 1) t)) atomic (allowed_i h)
          (λ b. rw n (atomic_may (is_concurrent h.kind) (plainly h) _ (sym e ∙ f)))));
    }

-- ---- blocks

-- a byte that is not 00 begins an instruction, and then the block goes on
goes_on : (d b : ℕ) (bs : List ℕ) → (d ≡ 0 → ⊥) → (b ≡ 0 → ⊥)
    → block d (b ∷ bs) ≡ (instr (block (d - 1)) (b ∷ bs) >>= λ (s, r). block d r >>= λ (b, q). is (step tt s b, q))
goes_on zero b bs deep q = absurd (deep refl)
goes_on (suc d) zero bs deep q = absurd (q refl)
goes_on (suc d) (suc m) bs deep q = let same : suc d - 1 ≡ d = omega arith in rw same (block_goes_on d m bs)

-- nothing is read past the end
block_none : (t : List ℕ) (d : ℕ) (h : Here) → None ≡ end_of t (block d [] >>= check (allowed h))
block_none t zero h = refl
block_none t (suc d) h = refl

module _ (t : List ℕ) (d : ℕ) (h : Here) (i : ℕ) where
  -- no depth is left
  pub block_shallow : d ≡ 0 → ReadsBlock t i d h None
  block_shallow e = record { same = rw e }

  -- whatever is read from k on is read from i on
  pub record BlockFrom (k : ℕ) : Type 0 where
    pub back : (r : Option ℕ) → ReadsBlock t k d h r → ReadsBlock t i d h r

  module _ (deep : d ≡ 0 → ⊥) (inside : i < length t) where
    -- the first byte, and what follows
    bytes_at : drop i t ≡ get_or t i 0 ∷ drop (i + 1) t
    bytes_at = let next : i + 1 ≡ suc i = omega arith in drop-cons t i 0 inside ∙ rw next

    -- the byte 00
    ended : get_or t i 0 ≡ 0 → ReadsBlock t i d h (Some (i + 1))
    ended q =
        let some : d ≡ suc (d - 1) = omega arith in
        let here : length t - length (drop (i + 1) t) ≡ i + 1 = rw length-drop (omega arith) in
        record { same = rw (some, bytes_at, q, here) }

    module _ (q : get_or t i 0 ≡ 0 → ⊥) where
      -- an instruction, and then the block goes on
      more : block d (drop i t) ≡ (instr (block (d - 1)) (drop i t) >>= λ (s, r). block d r >>= λ (b, q). is (step tt s b, q))
      more = rw bytes_at (goes_on d (get_or t i 0) (drop (i + 1) t) deep q)

      -- which is none
      cut : {f : Option ℕ} → f ≡ None → ReadsInstr t i (d - 1) h f → ReadsBlock t i d h None
      cut e R = record {
        same =
            rw more
            (passed_none (allowed_i h) t (instr (block (d - 1)) (drop i t)) (sym e ∙ R.same)
            (λ missed. rw missed)
            (λ s r found bad. rw found (sym (never_passes t (block d r) (step tt s) (allowed h) (λ b. rw bad)))));
      }

      -- which ends at k
      next : {f : Option ℕ} {k : ℕ} → f ≡ Some k → ReadsInstr t i (d - 1) h f → BlockFrom k
      next {k = k} e R =
          let rest = instr_leaves (block (d - 1)) (block_leaves (d - 1)) (drop i t) in
          let first = passed_at (allowed_i h) t i (instr (block (d - 1)) (drop i t)) rest (sym e ∙ R.same) in
          record {
            back = λ r S. record {
              same =
                  rw (more, first.1)
                  (S.same ∙ sym (passed_made (allowed h) t (block d (drop k t)) (step tt first.0) (allowed h) (λ b. rw first.2)));
            };
          }

  -- past the end
  past : length t ≤ i → ReadsBlock t i d h None
  past l = let none : drop i t ≡ [] = drop_of_length-le t {i = i} l in record { same = rw none (block_none t d h) }

-- the loop
module _ (t : List ℕ) (d : ℕ) (h : Here) (i : ℕ) where
  -- none is read yet
  pub block_start : BlockFrom t d h i i
  block_start = record { back = λ r R. R }

  module _ {k : ℕ} (F : BlockFrom t d h i k) where
    -- the bytes end first
    pub block_past : length t ≤ k → ReadsBlock t i d h None
    block_past l = F.back _ (past t d h k l)

    -- the byte 00
    pub block_end : (d ≡ 0 → ⊥) → k < length t → get_or t k 0 ≡ 0 → ReadsBlock t i d h (Some (k + 1))
    block_end deep l q = F.back _ (ended t d h k deep l q)

    -- no instruction
    pub block_cut : {f : Option ℕ} → (d ≡ 0 → ⊥) → k < length t → (get_or t k 0 ≡ 0 → ⊥) → f ≡ None → ReadsInstr t k (d - 1) h f
        → ReadsBlock t i d h None
    block_cut deep l q e R = F.back _ (cut t d h k deep l q e R)

    -- one more
    pub block_next : {f : Option ℕ} {n : ℕ} → (d ≡ 0 → ⊥) → k < length t → (get_or t k 0 ≡ 0 → ⊥) → f ≡ Some n → ReadsInstr t k (d - 1) h f
        → BlockFrom t d h i n
    block_next deep l q e R = record { back = λ r S. F.back r ((next t d h k deep l q e R).back r S) }

-- an instruction takes a byte, so less is left behind it
pub instr_less : {f : Option ℕ} (t : List ℕ) (i d : ℕ) (h : Here) (k : ℕ) → i < length t → f ≡ Some k → ReadsInstr t i d h f → length t - k < length t - i
instr_less t i d h k l e R =
    let read = instr (block d) (drop i t) in
    let found = passed_at (allowed_i h) t i read (instr_leaves (block d) (block_leaves d) (drop i t)) (sym e ∙ R.same) in
    let less : length (drop k t) < length (drop i t) = known_is _ found.1 (instr_takes (block d) (block_leaves d) (drop i t)) in
    omega (arith, length-drop k t, length-drop i t)

-- one law for each way
pub ruleset block_ways = (
  instr_past,
  instr_plain,
  while_inside,
  while_cut,
  reads_while,
  if_cut,
  then_cut,
  reads_if,
  no_atomic,
  reads_atomic,
  block_shallow,
  block_start,
  block_past,
  block_end,
  block_cut,
  block_next,
  instr_less,
)
