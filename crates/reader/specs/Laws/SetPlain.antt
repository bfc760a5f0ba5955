-- Rule 8 on the instructions that hold no block, as the code judges it: a set of locals is the bits of a number.
use Rattle.std.specs.Prelude.{ℕ, ◌+◌, ◌≤◌, ◌<◌, ◌≡◌, refl, List, [], ◌∷◌, Bool, true, false, get_or, Option, Some, None}
use Rattle.std.proofs.Common.{arith, sym, ap, ◌∙◌}
use Rattle.value.specs.Maybe.{Maybe, is, nothing, ◌>>=◌, when, pick}
use Rattle.value.specs.Lists.{all}
use Rattle.value.proofs.Laws.Maybes.{is_inj, missing}
use Rattle.format.specs.Syntax.{Expr, Instr, assign, write, read, while, if, call, atomic, select, Block, Plain, Program}
use Rattle.format.specs.Rules.{Known, with, known, after_i, after}
use Rattle.basics.specs.BitSets.{bits}
use Rattle.reader.specs.BitSets.{insert}
use Rattle.reader.specs.Laws.BitSets.{bits_insert}
use Rattle.format.proofs.Laws.Names.{Names, NamesI}
use Rattle.format.proofs.Laws.Stands.{first}
use Rattle.format.proofs.Laws.Grammar.{ExprsAt, InstrAt, BlockAt, AssignAt, WriteAt, ReadAt, CallAt, SelectAt}
use Rattle.format.proofs.Laws.Grammar.{assign_here, write_here, read_here, call_here, select_here}
use Rattle.scan.specs.Laws.NameScans.{both_true}
use Rattle.reader.specs.Laws.KnownScans.{Knows, alone, pair}

-- ---- what the code answers

-- what is set behind expressions, if their variables are
unfoldable pub settled : Option ℕ → ℕ → Option (ℕ × ℕ)
settled (Some j) s = Some (j, s)
settled None s = None

-- what is set, and where
abbrev pub outcome : Option (ℕ × ℕ) → Maybe (Known × ℕ)
outcome (Some (j, s)) = is (bits s, j)
outcome None = nothing

-- the same, of a definition
abbrev pub reached : Maybe Known → ℕ → Maybe (Known × ℕ)
reached m j = m >>= λ u. is (u, j)

-- an instruction stands there, whose names mean something among at most 64 locals
pub record InstrHere (t : List ℕ) (i d : ℕ) (a : Instr Plain) (j : ℕ) : Type 0 where
  pub program : Program Plain
  pub locals : ℕ
  pub few : locals ≤ 64
  pub at : InstrAt t i d a j
  pub names : NamesI program locals a

-- a block
pub record BlockHere (t : List ℕ) (i d : ℕ) (b : Block Plain) (j : ℕ) : Type 0 where
  pub program : Program Plain
  pub locals : ℕ
  pub few : locals ≤ 64
  pub at : BlockAt t i d b j
  pub names : Names program locals b

-- where s is set before an instruction, r is the outcome
pub record SetsInstr (t : List ℕ) (i d s : ℕ) (r : Option (ℕ × ℕ)) : Type 0 where
  pub ahead : (j u : ℕ) → r ≡ Some (j, u) → i < j
  pub gives : (a : Instr Plain) (j : ℕ) → InstrHere t i d a j → outcome r ≡ reached (after_i (bits s) a) j

-- of one that holds no block
pub record SetsPlain (t : List ℕ) (i s : ℕ) (r : Option (ℕ × ℕ)) : Type 0 where
  pub sets : (get_or t i 0 ≡ 0x23 → ⊥) → (get_or t i 0 ≡ 0x24 → ⊥) → (get_or t i 0 ≡ 0x26 → ⊥) → (d : ℕ) → SetsInstr t i d s r

-- of a block
pub record SetsBlock (t : List ℕ) (i d s : ℕ) (r : Option (ℕ × ℕ)) : Type 0 where
  pub ahead : (j u : ℕ) → r ≡ Some (j, u) → i < j
  pub gives : (b : Block Plain) (j : ℕ) → BlockHere t i d b j → outcome r ≡ reached (after (bits s) b) j

-- ---- outcomes

-- nothing is no outcome
pub unset : {G : Type 0} {j u : ℕ} → ◌≡◌ {A = Option (ℕ × ℕ)} None (Some (j, u)) → G
unset e = let z : ◌≡◌ {A = ℕ} 0 1 = cc in absurd (omega arith)

-- one end
pub set_inj : {j u k v : ℕ} → ◌≡◌ {A = Option (ℕ × ℕ)} (Some (j, u)) (Some (k, v)) → j ≡ k
set_inj {j} {u} {k} {v} e = let same : ◌≡◌ {A = ℕ × ℕ} (j, u) (k, v) = cc in ap (λ (p : ℕ × ℕ). p.0) same

-- what was reached
pub reached_is : (m : Maybe Known) {u : Known} {n : ℕ} (j : ℕ) → is (u, n) ≡ reached m j → (m ≡ is u) × (n ≡ j)
reached_is (is v) {u} {n} j e =
    let same : ◌≡◌ {A = Known × ℕ} (u, n) (v, j) = is_inj e in
    (ap (λ p. is p.0) (sym same), ap (λ p. p.1) same)
reached_is nothing j e = missing (sym e)

-- or not
pub reached_not : (m : Maybe Known) (j : ℕ) → nothing ≡ reached m j → m ≡ nothing
reached_not (is v) j e = missing e
reached_not nothing j e = refl

module _ {t : List ℕ} {i d s : ℕ} where
  -- an instruction behind which nothing is set
  pub instr_fails : ((a : Instr Plain) (j : ℕ) → InstrHere t i d a j → after_i (bits s) a ≡ nothing) → SetsInstr t i d s None
  instr_fails none = record { ahead = λ j u e. unset e; gives = λ a j h. ap (λ m. reached m j) (sym (none a j h)) }

  -- one that ends at n, behind which v is set
  pub instr_sets : {n v : ℕ} → i < n → ((a : Instr Plain) (j : ℕ) → InstrHere t i d a j → (after_i (bits s) a ≡ is (bits v)) × (n ≡ j))
      → SetsInstr t i d s (Some (n, v))
  instr_sets {n} {v} l sets = record {
    ahead = λ j u e. omega (arith, set_inj e);
    gives = λ a j h. let w : (after_i (bits s) a ≡ is (bits v)) × (n ≡ j) = sets a j h in rw (w.0, w.1);
  }

-- a block that was walked, and stands there
module _ {t : List ℕ} {i d s : ℕ} {f : Option (ℕ × ℕ)} (F : SetsBlock t i d s f) {b : Block Plain} {j : ℕ} (h : BlockHere t i d b j) where
  -- what is set behind it, and where it ends
  pub block_set : {n u : ℕ} → f ≡ Some (n, u) → (after (bits s) b ≡ is (bits u)) × (n ≡ j)
  block_set e = reached_is (after (bits s) b) j (ap outcome (sym e) ∙ F.gives b j h)

  -- a variable of it is not set
  pub block_unset : f ≡ None → after (bits s) b ≡ nothing
  block_unset e = reached_not (after (bits s) b) j (ap outcome (sym e) ∙ F.gives b j h)

-- a block of an instruction
pub inner : {t : List ℕ} {i d : ℕ} {a : Instr Plain} {j : ℕ} (h : InstrHere t i d a j) {k e : ℕ} {b : Block Plain} {l : ℕ} → BlockAt t k e b l
    → Names h.program h.locals b → BlockHere t k e b l
inner h at names = record { program = h.program; locals = h.locals; few = h.few; at = at; names = names }

-- ---- instructions that hold no block

-- behind expressions: the set v, if their variables are set
settles : {f : Option ℕ} {r : Option (ℕ × ℕ)} (v j : ℕ) (b : Bool) → f ≡ pick b (Some j) None → r ≡ settled f v → outcome r ≡ reached (when b (is (bits v))) j
unfolding settled
settles v j true e g = rw (g, e)
settles v j false e g = rw (g, e)

-- and ahead of them
settles_ahead : {t : List ℕ} {i n s : ℕ} {f : Option ℕ} {r : Option (ℕ × ℕ)} (v : ℕ) {j u : ℕ} → Knows t i n s f → r ≡ settled f v → r ≡ Some (j, u) → i ≤ j
unfolding settled
settles_ahead {f = Some k} v {j} {u} K g h = let same : ◌≡◌ {A = Option (ℕ × ℕ)} (Some (k, v)) (Some (j, u)) = sym g ∙ h in omega (arith, K.ahead k refl, set_inj same)
settles_ahead {f = None} v K g h = unset (sym g ∙ h)

-- as the code does
pub settled_at : {e : Option ℕ} {j : ℕ} (s : ℕ) → e ≡ Some j → ◌≡◌ {A = Option (ℕ × ℕ)} (Some (j, s)) (settled e s)
unfolding settled
settled_at s q = rw q

-- or a variable is not set
pub settled_nothing : {e : Option ℕ} (s : ℕ) → e ≡ None → None ≡ settled e s
unfolding settled
settled_nothing s q = rw q

-- an instruction that mentions n expressions from k on, and sets v behind them
record Mentions (t : List ℕ) (s k n v : ℕ) (a : Instr Plain) (j : ℕ) : Type 0 where
  es : List Expr
  there : ExprsAt t k n es j
  same : after_i (bits s) a ≡ when (all (known (bits s)) es) (is (bits v))

module _ {t : List ℕ} {i s : ℕ} where
  -- its outcome
  mentions : {k n v : ℕ} {f : Option ℕ} {r : Option (ℕ × ℕ)} → i < k → Knows t k n s f → r ≡ settled f v
      → ((d : ℕ) (a : Instr Plain) (j : ℕ) → InstrHere t i d a j → Mentions t s k n v a j) → SetsPlain t i s r
  mentions {k} {n} {v} {r = r} l K g says =
      record { sets = λ q₁ q₂ q₃ d. record { ahead = λ j u e. omega (arith, settles_ahead v K g e); gives = gives d } }
    where
      gives : (d : ℕ) (a : Instr Plain) (j : ℕ) → InstrHere t i d a j → outcome r ≡ reached (after_i (bits s) a) j
      gives d a j h =
          let m : Mentions t s k n v a j = says d a j h in
          rw m.same (settles v j (all (known (bits s)) m.es) (K.gives m.es j m.there) g)

  -- one that mentions a variable which is not set
  fails : ((d : ℕ) (a : Instr Plain) (j : ℕ) → InstrHere t i d a j → after_i (bits s) a ≡ nothing) → SetsPlain t i s None
  fails none = record { sets = λ q₁ q₂ q₃ d. instr_fails (none d) }

module _ (t : List ℕ) (i s : ℕ) where
  -- the target of an assignment or a read
  target : {x v X : ℕ} → x ≡ get_or t (i + 1) 0 → v ≡ insert s x → get_or t (i + 1) 0 < X → X ≤ 64 → bits v ≡ with (bits s) (get_or t (i + 1) 0)
  target ex ev l few = rw (ev, ex) (bits_insert s (get_or t (i + 1) 0) (omega arith))

  -- "20 x e"
  pub sets_assign : {f : Option ℕ} {r : Option (ℕ × ℕ)} {x v : ℕ} → get_or t i 0 ≡ 0x20 → Knows t (i + 2) 1 s f → x ≡ get_or t (i + 1) 0 → v ≡ insert s x
      → r ≡ settled f v → SetsPlain t i s r
  sets_assign {v = v} m K ex ev er = mentions (omega arith) K er λ d a j h.
      let here : AssignAt t i d a j = assign_here h.at m in
      let set : bits v ≡ with (bits s) (get_or t (i + 1) 0) = target ex ev (rw here.is at h.names).0 h.few in
      let same = ap (after_i (bits s)) here.is ∙ rw (set, both_true (known (bits s) here.e)) in
      record { es = here.e ∷ []; there = alone here.source; same = same }

  -- "21 y o e", where y is set
  pub sets_write : {f : Option ℕ} {r : Option (ℕ × ℕ)} {y : ℕ} {b : Bool} → get_or t i 0 ≡ 0x21 → y ≡ get_or t (i + 1) 0 → b ≡ bits s y → b ≡ true
      → Knows t (i + 2) 2 s f → r ≡ settled f s → SetsPlain t i s r
  sets_write m ey eb eq K er = mentions (omega arith) K er λ d a j h.
      let here : WriteAt t i d a j = write_here h.at m in
      let on : bits s (get_or t (i + 1) 0) ≡ true = rw (← ey, ← eb) eq in
      let same = ap (after_i (bits s)) here.is ∙ rw (on, both_true (known (bits s) here.e)) in
      record { es = here.o ∷ here.e ∷ []; there = pair here.offset here.source; same = same }

  -- and where it is not
  pub not_write : {y : ℕ} {b : Bool} → get_or t i 0 ≡ 0x21 → y ≡ get_or t (i + 1) 0 → b ≡ bits s y → b ≡ false → SetsPlain t i s None
  not_write m ey eb eq = fails λ d a j h.
      let here : WriteAt t i d a j = write_here h.at m in
      let off : bits s (get_or t (i + 1) 0) ≡ false = rw (← ey, ← eb) eq in
      ap (after_i (bits s)) here.is ∙ rw off

  -- "22 x y o", where y is set
  pub sets_read : {f : Option ℕ} {r : Option (ℕ × ℕ)} {x y v : ℕ} {b : Bool} → get_or t i 0 ≡ 0x22 → y ≡ get_or t (i + 2) 0 → b ≡ bits s y → b ≡ true
      → Knows t (i + 3) 1 s f → x ≡ get_or t (i + 1) 0 → v ≡ insert s x → r ≡ settled f v → SetsPlain t i s r
  sets_read {v = v} m ey eb eq K ex ev er = mentions (omega arith) K er λ d a j h.
      let here : ReadAt t i d a j = read_here h.at m in
      let on : bits s (get_or t (i + 2) 0) ≡ true = rw (← ey, ← eb) eq in
      let set : bits v ≡ with (bits s) (get_or t (i + 1) 0) = target ex ev (rw here.is at h.names).0 h.few in
      let same = ap (after_i (bits s)) here.is ∙ rw (on, set, both_true (known (bits s) here.o)) in
      record { es = here.o ∷ []; there = alone here.offset; same = same }

  -- and where it is not
  pub not_read : {y : ℕ} {b : Bool} → get_or t i 0 ≡ 0x22 → y ≡ get_or t (i + 2) 0 → b ≡ bits s y → b ≡ false → SetsPlain t i s None
  not_read m ey eb eq = fails λ d a j h.
      let here : ReadAt t i d a j = read_here h.at m in
      let off : bits s (get_or t (i + 2) 0) ≡ false = rw (← ey, ← eb) eq in
      ap (after_i (bits s)) here.is ∙ rw off

  -- "25 m n", n expressions
  pub sets_call : {f : Option ℕ} {r : Option (ℕ × ℕ)} {n : ℕ} → get_or t i 0 ≡ 0x25 → n ≡ get_or t (i + 3) 0 → Knows t (i + 4) n s f
      → r ≡ settled f s → SetsPlain t i s r
  sets_call m en K er = mentions (omega arith) K er λ d a j h.
      let here : CallAt t i d a j = call_here h.at m in
      record { es = here.es; there = rw en here.args; same = ap (after_i (bits s)) here.is }

  -- "27 a b"
  pub sets_select : get_or t i 0 ≡ 0x27 → SetsPlain t i s (Some (i + 5, s))
  sets_select m = record {
    sets = λ q₁ q₂ q₃ d. instr_sets (omega arith) (λ a j h.
        let here : SelectAt t i d a j = select_here h.at m in
        (ap (after_i (bits s)) here.is, sym here.ends));
  }

  -- no other instruction has no block
  pub no_plain : (get_or t i 0 ≡ 0x20 → ⊥) → (get_or t i 0 ≡ 0x21 → ⊥) → (get_or t i 0 ≡ 0x22 → ⊥) → (get_or t i 0 ≡ 0x25 → ⊥) → (get_or t i 0 ≡ 0x27 → ⊥)
      → SetsPlain t i s None
  no_plain q₀ q₁ q₂ q₅ q₇ = record { sets = λ q₃ q₄ q₆ d. instr_fails (λ a j h. absurd (none q₃ q₄ q₆ a j h.at)) }
    where
      none : {d : ℕ} → (get_or t i 0 ≡ 0x23 → ⊥) → (get_or t i 0 ≡ 0x24 → ⊥) → (get_or t i 0 ≡ 0x26 → ⊥) → (a : Instr Plain) (j : ℕ) → InstrAt t i d a j → ⊥
      none q₃ q₄ q₆ (assign x e) j h = q₀ (first h.stands)
      none q₃ q₄ q₆ (write y o e) j h = q₁ (first h.stands)
      none q₃ q₄ q₆ (read x y o) j h = q₂ (first h.stands)
      none q₃ q₄ q₆ (while e b) j h = q₃ (first h.stands)
      none q₃ q₄ q₆ (if e b c) j h = q₄ (first h.stands)
      none q₃ q₄ q₆ (call m es) j h = q₅ (first h.stands)
      none q₃ q₄ q₆ (atomic b) j h = q₆ (first h.stands)
      none q₃ q₄ q₆ (select x y) j h = q₇ (first h.stands)
