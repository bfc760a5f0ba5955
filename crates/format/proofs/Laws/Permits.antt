-- Rule 4: where an instruction may stand, as a statement, and its test.
use Rattle.std.specs.Prelude.{ℕ, suc, ◌≡◌, refl, List, [], ◌∷◌, Bool, true, false, not}
use Rattle.std.proofs.Common.{sym}
use Rattle.value.proofs.Laws.Tests.{Decides, never, always, ◌and◌, eq?}
use Rattle.format.specs.Syntax.{Instr, assign, write, read, while, if, call, atomic, select}
use Rattle.format.specs.Syntax.{Block, end, step, Plain, Kind, concurrent, sequential}
use Rattle.format.specs.Rules.{Here, plainly, is_concurrent, allowed, allowed_i, all_allowed}

-- an instruction, and a block, may stand here: in a table of this kind, in this procedure, inside an atomic block or not
abbrev mutual
  pub PermittedI : {A : Type 0} → Here → Instr A → Type 0
  PermittedI h (assign x e) = Unit {0}
  PermittedI h (write y o e) = Unit {0}
  PermittedI h (read x y o) = Unit {0}
  -- "within it no while, call or atomic"
  PermittedI h (while e b) = (h.inside ≡ false) × Permitted h b
  PermittedI h (if e b c) = Permitted h b × Permitted h c
  PermittedI h (call m es) = h.inside ≡ false
  -- "atomic, concurrent only"
  PermittedI h (atomic b) = (h.kind ≡ concurrent) × ((h.inside ≡ false) × Permitted (record { kind = h.kind; proc = h.proc; inside = true }) b)
  -- "select, sequential only, only in procedure 0"
  PermittedI h (select a b) = (h.kind ≡ sequential) × (h.proc ≡ 0)

  -- of a block
  pub Permitted : {A : Type 0} → Here → Block A → Type 0
  Permitted h end = Unit {0}
  Permitted h (step a i b) = PermittedI h i × Permitted h b

-- of the bodies of procedures from m on
abbrev pub AllPermitted : Kind → ℕ → List (Block Plain) → Type 0
AllPermitted k m [] = Unit {0}
AllPermitted k m (b ∷ bs) = Permitted (record { kind = k; proc = m; inside = false }) b × AllPermitted k (suc m) bs

-- ---- the tests decide these

-- not inside an atomic block
plainly? : (h : Here) → Decides (plainly h) (h.inside ≡ false)
plainly? h = by h.inside
  where
    by : (b : Bool) → Decides (not b) (b ≡ false)
    by true = record { so = λ e. sym e; of = λ e. sym e }
    by false = record { so = λ e. refl; of = λ e. refl }

-- the concurrent language
concurrent? : (k : Kind) → Decides (is_concurrent k) (k ≡ concurrent)
concurrent? concurrent = record { so = λ e. refl; of = λ e. refl }
concurrent? sequential = record { so = λ e. absurd (never e); of = λ e. cc }

-- the sequential language
sequential? : (k : Kind) → Decides (not (is_concurrent k)) (k ≡ sequential)
sequential? concurrent = record { so = λ e. absurd (never e); of = λ e. cc }
sequential? sequential = record { so = λ e. refl; of = λ e. refl }

mutual
  -- an instruction
  permitted_i? : {A : Type 0} (i : Instr A) (h : Here) → Decides (allowed_i h i) (PermittedI h i)
  permitted_i? (assign x e) h = always
  permitted_i? (write y o e) h = always
  permitted_i? (read x y o) h = always
  permitted_i? (while e b) h = plainly? h and permitted? b h
  permitted_i? (if e b c) h = permitted? b h and permitted? c h
  permitted_i? (call m es) h = plainly? h
  permitted_i? (atomic b) h = concurrent? h.kind and plainly? h and permitted? b (record { kind = h.kind; proc = h.proc; inside = true })
  permitted_i? (select a b) h = sequential? h.kind and eq? h.proc 0

  -- a block
  pub permitted? : {A : Type 0} (b : Block A) (h : Here) → Decides (allowed h b) (Permitted h b)
  permitted? end h = always
  permitted? (step a i b) h = permitted_i? i h and permitted? b h

-- all bodies
pub all_permitted? : (k : Kind) (m : ℕ) (bs : List (Block Plain)) → Decides (all_allowed k m bs) (AllPermitted k m bs)
all_permitted? k m [] = always
all_permitted? k m (b ∷ bs) = permitted? b (record { kind = k; proc = m; inside = false }) and all_permitted? k (suc m) bs
