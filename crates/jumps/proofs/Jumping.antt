-- One law for each way through the walks that fill the jump table.
use Prim.Native.Nat.{ℕ, ◌+◌, ◌-◌, ◌≤◌, ◌<◌}
use native.Mathlib.Omega.{arith}
use mathlib.Core.Path.{◌≡◌, refl, sym, ap, subst, ◌∙◌}
use mathlib.Core.List.{List, ◌++◌}
use mathlib.Core.Bool.{Bool, true, false}
use lib.ListN.{length, get_or, set, length-append}
use lib.Seq.{get_or-set_same}
use Rattle.value.specs.Maybe.{is, nothing}
use Rattle.value.proofs.Laws.Maybes.{is_inj, missing}
use Rattle.value.proofs.Laws.Tests.{never}
use Rattle.format.specs.Syntax.{Instr, assign, write, read, while, if, call, atomic, select, Block, end, step, ◌⊕◌, Proc, Plain}
use Rattle.format.specs.Encode.{expr, instr, block}
use Rattle.labels.specs.Spots.{Spot, here, later, inner, Inner, body, thens, elses, CodeAt}
use Rattle.labels.specs.Walks.{InstrIn, BlockIn, ExprEnds, CountsInstr, CountsBlock}
use Rattle.format.proofs.Laws.Stands as Stands
use Rattle.format.proofs.Laws.Grammar
use Rattle.labels.specs.Laws.Spots.{itself, onward, spot_inside, block_some, instr_some}
use Rattle.labels.specs.declared.count.Counted.{Counted}
use Rattle.labels.proofs.Counting.{instr_in, block_in, body_in_lem, then_in, else_in, then_counts}
use Rattle.engine.specs.Work.{Beside}
use Rattle.jumps.specs.Jumps.{positions, Settled, first, beyond, Entry, Onward}
use Rattle.jumps.specs.Jumps.{FilledBlock, FilledInstr, FillsBlock, FillsInstr, Settles, Branches}
use Rattle.engine.specs.Laws.Work.{beside_same, beside_set}

-- ---- numbers stored here and there

-- stores in a part are stores in the whole
beside_in : {ws ws' : List ℕ} {a b c d : ℕ} → Beside ws ws' b c → a ≤ b → c ≤ d → Beside ws ws' a d
beside_in s h l = record { long = s.long; below = λ k m. s.below k (omega arith); above = λ k m. s.above k (omega arith) }

-- one after the other
beside_both : {ws ws' ws'' : List ℕ} {a b : ℕ} → Beside ws ws' a b → Beside ws' ws'' a b → Beside ws ws'' a b
beside_both s u = record {
  long = u.long ∙ s.long;
  below = λ k m. u.below k m ∙ s.below k m;
  above = λ k m. u.above k m ∙ s.above k m;
}

-- ---- code inside code

-- a spot of a block is a position of the code
pub code_in : {ps : List (Proc Plain)} {m i k : ℕ} {b c d r : Block Plain} → CodeAt ps m i b c → Spot k d r i b c → CodeAt ps m k d r
code_in a s = record { proc = a.proc; found = a.found; spot = onward a.spot s }

-- a spot inside an instruction ends before it does
inner_before : {k i : ℕ} {s : Instr Plain} {d r c : Block Plain} → Inner k d r i tt s c → k < i + length (instr s)
inner_before {d = d} (body {e = e} {b = b} p) = let q = spot_inside p in omega (arith, block_some d, length-append (expr e) (block b))
inner_before {d = d} (thens {e = e} {b = b} {f = f} p) =
    let q = spot_inside p in omega (arith, block_some d, length-append (expr e) (block b ++ block f), length-append (block b) (block f))
inner_before {d = d} (elses {e = e} {b = b} {f = f} p) =
    let q = spot_inside p in omega (arith, block_some d, length-append (expr e) (block b ++ block f), length-append (block b) (block f))

-- a while or an if holds code
abbrev Holding : Instr Plain → Type 0
Holding (assign x e) = ⊥
Holding (write y o e) = ⊥
Holding (read x y o) = ⊥
Holding (while e b) = Unit {0}
Holding (if e b f) = Unit {0}
Holding (call n es) = ⊥
Holding (atomic b) = ⊥
Holding (select x y) = ⊥

-- no other instruction has a spot inside
holding : {k i : ℕ} {s : Instr Plain} {d r c : Block Plain} → Inner k d r i tt s c → Holding s
holding (body p) = tt
holding (thens p) = tt
holding (elses p) = tt

-- the end of a block is a spot of it
pub end_spot : (b c : Block Plain) (i : ℕ) → Spot (i + length (block b) - 1) end c i b c
end_spot end c i = let same : i ≡ i + 1 - 1 = omega arith in here same refl refl
end_spot (step a s b) c i =
    let same : i + length (instr s) + length (block b) - 1 ≡ i + length (instr s ++ block b) - 1 = omega (arith, length-append (instr s) (block b)) in
    later (subst (λ (k : ℕ). Spot k end c (i + length (instr s)) b c) same (end_spot b c (i + length (instr s))))

-- ---- where code goes on

module _ {t : List ℕ} {i n : ℕ} where
  -- nothing is left of the block
  pub onward_end : get_or t i 0 ≡ 0 → Onward t i n n
  onward_end q = record {
    gives = λ d b j h ps m c k s. rw (Grammar.end_here h q).0 s;
    below = λ h l. h;
  }

  -- it has an instruction
  pub onward_here : i < length t → (get_or t i 0 ≡ 0 → ⊥) → Onward t i n i
  onward_here l q = record {
    gives = λ d b j h ps m c k s.
        let w = Grammar.step_here h q in
        first w.s w.rest c (subst (λ (z : Block Plain). CodeAt ps m i z c) w.is k) (ap (◌⊕ c) w.is);
    below = λ h m. omega arith;
  }

pub ruleset onward_ways = (onward_end, onward_here)

-- the code beyond is one
entry_to : {ps : List (Proc Plain)} {m v : ℕ} {d r x : Block Plain} → beyond d r ≡ is x → Settled ps m v x → Entry ps m v d r
entry_to {ps} {m} {v} e s = record { goes = λ y f. subst (Settled ps m v) (is_inj (sym e ∙ f)) s }

-- there is none
entry_none : {ps : List (Proc Plain)} {m v : ℕ} {d r : Block Plain} → beyond d r ≡ nothing → Entry ps m v d r
entry_none e = record { goes = λ y f. missing (sym e ∙ f) }

-- ---- instructions

-- the entry of a position that was stored, and not again
pub entry_kept : {ps : List (Proc Plain)} {m v w : ℕ} {d r : Block Plain} → w ≡ v → Entry ps m v d r → Entry ps m w d r
entry_kept {ps} {m} {d = d} {r} e h = subst (λ (x : ℕ). Entry ps m x d r) (sym e) h

module _ {t : List ℕ} {i d n : ℕ} {js : List ℕ} where
  -- without blocks
  pub fills_plain : (get_or t i 0 ≡ 0x23 → ⊥) → (get_or t i 0 ≡ 0x24 → ⊥) → FillsInstr t i d n js js
  fills_plain a b = record { gives = λ long small. go }
    where
      plain : (s : Instr Plain) (j : ℕ) → ((b c : Block Plain) → beyond (step tt s b) c ≡ nothing)
          → (Holding s → ⊥) → FilledInstr i s j n js js
      plain s j f g = record {
        beside = beside_same;
        itself = λ ps m b c h l. entry_none (f b c);
        inner = λ ps m b c h l k d r p. absurd (g (holding p));
      }

      go : (s : Instr Plain) (j : ℕ) → Grammar.InstrAt t i d s j → FilledInstr i s j n js js
      go (assign x e) j h = plain (assign x e) j (λ b c. refl) (λ z. z)
      go (write y o e) j h = plain (write y o e) j (λ b c. refl) (λ z. z)
      go (read x y o) j h = plain (read x y o) j (λ b c. refl) (λ z. z)
      go (while e w) j h = absurd (a (Stands.first h.stands))
      go (if e w f) j h = absurd (b (Stands.first h.stands))
      go (call q es) j h = plain (call q es) j (λ b c. refl) (λ z. z)
      go (atomic w) j h = plain (atomic w) j (λ b c. refl) (λ z. z)
      go (select x y) j h = plain (select x y) j (λ b c. refl) (λ z. z)

  -- "23 e block": after the body comes the loop
  pub fills_while : {b : ℕ} {js₁ js₂ : List ℕ} → get_or t i 0 ≡ 0x23 → js₁ ≡ set js i n → ExprEnds t (i + 1) b → FillsBlock t b d i js₁ js₂
      → FillsInstr t i d n js js₂
  fills_while {b} {js₁} {js₂} q S B W = record {
    gives = λ long small s j h.
        let w = Grammar.while_here h q in
        let there : b ≡ w.k = B.ends w.e w.k w.test in
        let place : b ≡ i + 1 + length (expr w.e) = there ∙ w.test.stands.ends in
        let low : i < length js = omega (arith, Grammar.instr_inside h) in
        let one : Beside js js₁ i (i + 1) = subst (λ (z : List ℕ). Beside js z i (i + 1)) (sym S) (beside_set js i n) in
        let block : Grammar.BlockAt t b d w.b j = subst (λ (x : ℕ). Grammar.BlockAt t x d w.b j) (sym there) w.body in
        let F : FilledBlock b w.b j i js₁ js₂ = W.gives (one.long ∙ long) small w.b j block in
        let ends : b < j = (Grammar.block_inside block).0 in
        let kept : get_or js₂ i 0 ≡ n = F.beside.below i (omega arith) ∙ ap (λ (z : List ℕ). get_or z i 0) S ∙ get_or-set_same js i n 0 low in
        let loops : (ps : List (Proc Plain)) (m : ℕ) (x c : Block Plain) → CodeAt ps m i (step tt (while w.e w.b) x) c
        → CodeAt ps m b w.b (step tt (while w.e w.b) (x ⊕ c)) =
        λ ps m x c a. subst (λ (z : ℕ). CodeAt ps m z w.b (step tt (while w.e w.b) (x ⊕ c))) (sym place) (code_in a (inner (body itself)))
        in
        subst (λ (z : Instr Plain). FilledInstr i z j n js js₂) (sym w.is)
        (record {
          beside = beside_both (beside_in one (omega arith) (omega arith)) (beside_in F.beside (omega arith) (omega arith));
          itself = λ ps m x c a l. entry_to refl (subst (λ (z : ℕ). Settled ps m z (x ⊕ c)) (sym kept) l);
          inner = λ ps m x c a l k y r p. in_body w place F ps m x c a (loops ps m x c a) k y r p;
        });
  }
    where
      in_body : {s : Instr Plain} {j : ℕ} (w : Grammar.WhileAt t i d s j) → b ≡ i + 1 + length (expr w.e) → FilledBlock b w.b j i js₁ js₂
          → (ps : List (Proc Plain)) (m : ℕ) (x c : Block Plain) → CodeAt ps m i (step tt (while w.e w.b) x) c
          → CodeAt ps m b w.b (step tt (while w.e w.b) (x ⊕ c)) → (k : ℕ) (y r : Block Plain)
          → Inner k y r i tt (while w.e w.b) (x ⊕ c) → Entry ps m (get_or js₂ k 0) y r
      in_body w place F ps m x c a l k y r (body p) =
          F.entries ps m (step tt (while w.e w.b) (x ⊕ c)) l (first (while w.e w.b) x c a refl) k y r
          (subst (λ (z : ℕ). Spot k y r z w.b (step tt (while w.e w.b) (x ⊕ c))) (sym place) p)

  -- "24 e block block": after a branch comes what follows the if
  pub fills_if : {b f : ℕ} {x : Counted} {js₁ js₂ js₃ : List ℕ} → get_or t i 0 ≡ 0x24 → ExprEnds t (i + 1) b → CountsBlock t b d x
      → Onward t x.next n f → js₁ ≡ set js i f → FillsBlock t b d n js₁ js₂ → FillsBlock t x.next d n js₂ js₃ → FillsInstr t i d n js js₃
  fills_if {b} {f} {x} {js₁} {js₂} {js₃} q B X O S Y N = record {
    gives = λ long small s j h.
        let w = Grammar.if_here h q in
        let there : b ≡ w.k = B.ends w.e w.k w.test in
        let place : b ≡ i + 1 + length (expr w.e) = there ∙ w.test.stands.ends in
        let low : i < length js = omega (arith, Grammar.instr_inside h) in
        let one : Beside js js₁ i (i + 1) = subst (λ (z : List ℕ). Beside js z i (i + 1)) (sym S) (beside_set js i f) in
        let at : x.next ≡ w.l = ap (λ (z : Counted). z.next) (then_counts w B X) in
        let then : Grammar.BlockAt t b d w.b w.l = subst (λ (z : ℕ). Grammar.BlockAt t z d w.b w.l) (sym there) w.first in
        let else : Grammar.BlockAt t x.next d w.c j = subst (λ (z : ℕ). Grammar.BlockAt t z d w.c j) (sym at) w.second in
        let second : x.next ≡ i + 1 + length (expr w.e) + length (block w.b) = at ∙ then.stands.ends ∙ ap (◌+ length (block w.b)) place in
        let F : FilledBlock b w.b w.l n js₁ js₂ = Y.gives (one.long ∙ long) small w.b w.l then in
        let G : FilledBlock x.next w.c j n js₂ js₃ = N.gives (F.beside.long ∙ one.long ∙ long) small w.c j else in
        let yes : b < w.l = (Grammar.block_inside then).0 in
        let no : x.next < j = (Grammar.block_inside else).0 in
        let kept : get_or js₃ i 0 ≡ f =
        G.beside.below i (omega arith) ∙ F.beside.below i (omega arith) ∙ ap (λ (z : List ℕ). get_or z i 0) S ∙ get_or-set_same js i f 0 low
        in
        subst (λ (z : Instr Plain). FilledInstr i z j n js js₃) (sym w.is)
        (record {
          beside =
              beside_both (beside_in one (omega arith) (omega arith))
              (beside_both (beside_in F.beside (omega arith) (omega arith)) (beside_in G.beside (omega arith) (omega arith)));
          itself = λ ps m z c a l.
              entry_to refl
              (subst (λ (v : ℕ). Settled ps m v (w.c ⊕ (z ⊕ c))) (sym kept)
              (O.gives d w.c j else ps m (z ⊕ c)
              (subst (λ (v : ℕ). CodeAt ps m v w.c (z ⊕ c)) (sym second) (code_in a (inner (elses itself)))) l));
          inner = λ ps m z c a l k y r p. in_branch w place second at F G ps m z c a l k y r p;
        });
  }
    where
      in_branch : {s : Instr Plain} {j : ℕ} (w : Grammar.IfAt t i d s j) → b ≡ i + 1 + length (expr w.e)
          → x.next ≡ i + 1 + length (expr w.e) + length (block w.b) → x.next ≡ w.l
          → FilledBlock b w.b w.l n js₁ js₂ → FilledBlock x.next w.c j n js₂ js₃
          → (ps : List (Proc Plain)) (m : ℕ) (z c : Block Plain) → CodeAt ps m i (step tt (if w.e w.b w.c) z) c → Settled ps m n (z ⊕ c)
          → (k : ℕ) (y r : Block Plain) → Inner k y r i tt (if w.e w.b w.c) (z ⊕ c) → Entry ps m (get_or js₃ k 0) y r
      in_branch w place second at F G ps m z c a l k y r (thens p) =
          let here : Spot k y r b w.b (z ⊕ c) = subst (λ (v : ℕ). Spot k y r v w.b (z ⊕ c)) (sym place) p in
          let low : k < x.next = omega (arith, spot_inside p, block_some y, second) in
          entry_kept (G.beside.below k low)
          (F.entries ps m (z ⊕ c) (subst (λ (v : ℕ). CodeAt ps m v w.b (z ⊕ c)) (sym place) (code_in a (inner (thens itself)))) l k y r here)
      in_branch w place second at F G ps m z c a l k y r (elses p) =
          G.entries ps m (z ⊕ c) (subst (λ (v : ℕ). CodeAt ps m v w.c (z ⊕ c)) (sym second) (code_in a (inner (elses itself)))) l k y r
          (subst (λ (v : ℕ). Spot k y r v w.c (z ⊕ c)) (sym second) p)

-- ---- blocks

-- what is filled from i' on, into js', fills the block at i
pub record Filling (t : List ℕ) (i d n : ℕ) (js : List ℕ) (i' : ℕ) (js' : List ℕ) : Type 0 where
  pub rest : BlockIn t i' d
  pub back : (js'' : List ℕ) → FillsBlock t i' d n js' js'' → FillsBlock t i d n js js''

-- an instruction, and then the rest of the block
filled_step : {i k j f n : ℕ} {s : Instr Plain} {b : Block Plain} {js js' js'' : List ℕ} → k ≡ i + length (instr s) → k ≤ j
    → ((ps : List (Proc Plain)) (m : ℕ) (c : Block Plain) → CodeAt ps m k b c → Settled ps m n c → Settled ps m f (b ⊕ c))
    → FilledInstr i s k f js js' → FilledBlock k b j n js' js'' → FilledBlock i (step tt s b) j n js js''
filled_step {i} {k} {j} {f} {n} {s} {b} {js} {js'} {js''} place ends goes I R = record {
  beside = beside_both (beside_in I.beside (omega arith) ends) (beside_in R.beside (omega arith) (omega arith));
  entries = go;
}
  where
    after : {ps : List (Proc Plain)} {m : ℕ} {c : Block Plain} → CodeAt ps m i (step tt s b) c → CodeAt ps m k b c
    after {ps} {m} {c} a = subst (λ (z : ℕ). CodeAt ps m z b c) (sym place) (code_in a (later itself))

    go : (ps : List (Proc Plain)) (m : ℕ) (c : Block Plain) → CodeAt ps m i (step tt s b) c → Settled ps m n c
        → (z : ℕ) (d r : Block Plain) → Spot z d r i (step tt s b) c → Entry ps m (get_or js'' z 0) d r
    go ps m c a l z d r (here e g h) =
        rw (← e, ← g, ← h)
        (entry_kept (R.beside.below i (omega (arith, instr_some s))) (I.itself ps m b c a (goes ps m c (after a) l)))
    go ps m c a l z d r (later p) = R.entries ps m c (after a) l z d r (subst (λ (y : ℕ). Spot z d r y b c) (sym place) p)
    go ps m c a l z d r (inner p) =
        entry_kept (R.beside.below z (omega (arith, inner_before p))) (I.inner ps m b c a (goes ps m c (after a) l) z d r p)

module _ {t : List ℕ} {i d n : ℕ} {js : List ℕ} where
  -- from the beginning
  pub fill_start : BlockIn t i d → Filling t i d n js i js
  fill_start h = record { rest = h; back = λ js'' F. F }

  -- the next instruction
  pub fill_instr_in : {i' : ℕ} {js' : List ℕ} → Filling t i d n js i' js' → (get_or t i' 0 ≡ 0 → ⊥) → InstrIn t i' (d - 1)
  fill_instr_in F q = instr_in (Grammar.step_here F.rest.there q).here

  -- the block goes on behind it
  pub fill_rest_in : {i' : ℕ} {js' : List ℕ} {x : Counted} → Filling t i d n js i' js' → (get_or t i' 0 ≡ 0 → ⊥) → CountsInstr t i' (d - 1) x
      → BlockIn t x.next d
  fill_rest_in F q X =
      let w = Grammar.step_here F.rest.there q in
      rw (X.gives w.s w.k w.here) (block_in w.after)

  pub fill_rest_inside : {i' : ℕ} {js' : List ℕ} {x : Counted} → Filling t i d n js i' js' → (get_or t i' 0 ≡ 0 → ⊥) → CountsInstr t i' (d - 1) x
      → x.next < length t
  fill_rest_inside F q X = (fill_rest_in F q X).inside

  -- and is filled with it
  pub fill_next : {i' f : ℕ} {js' js'' : List ℕ} {x : Counted} → Filling t i d n js i' js' → (get_or t i' 0 ≡ 0 → ⊥) → CountsInstr t i' (d - 1) x
      → Onward t x.next n f → FillsInstr t i' (d - 1) f js' js'' → Filling t i d n js x.next js''
  fill_next {i'} {f} {js'} {js''} {x} F q X O I = record {
    rest = fill_rest_in F q X;
    back = λ js''' R. F.back js''' (record {
      gives = λ long small b j a.
          let v = Grammar.step_here a q in
          let at : x.next ≡ v.k = ap (λ (z : Counted). z.next) (X.gives v.s v.k v.here) in
          let rest : Grammar.BlockAt t x.next d v.rest j = subst (λ (z : ℕ). Grammar.BlockAt t z d v.rest j) (sym at) v.after in
          let one : FilledInstr i' v.s x.next f js' js'' =
          subst (λ (z : ℕ). FilledInstr i' v.s z f js' js'') (sym at) (I.gives long small v.s v.k v.here)
          in
          subst (λ (z : Block Plain). FilledBlock i' z j n js' js''') (sym v.is)
          (filled_step (at ∙ v.here.stands.ends) (omega (arith, Grammar.block_inside rest)) (O.gives d v.rest j rest) one
          (R.gives (one.beside.long ∙ long) small v.rest j rest));
    });
  }

  -- "a block ends with byte 00"
  pub fill_end : {i' : ℕ} {js' js'' : List ℕ} → Filling t i d n js i' js' → get_or t i' 0 ≡ 0 → js'' ≡ set js' i' n → FillsBlock t i d n js js''
  fill_end {i'} {js'} {js''} F q S = F.back js'' (record {
    gives = λ long small b j a.
        let v = Grammar.end_here a q in
        let low : i' < length js' = omega (arith, F.rest.inside) in
        let same : get_or js'' i' 0 ≡ n = ap (λ (z : List ℕ). get_or z i' 0) S ∙ get_or-set_same js' i' n 0 low in
        rw (v.0, v.1, S) (record {
          beside = beside_set js' i' n;
          entries = λ ps m c a l k y r p. only (set js' i' n) ps m c (subst (λ (z : ℕ). Settled ps m z c) (sym (rw S at same)) l) k y r p;
        });
  })
    where
      only : (v : List ℕ) (ps : List (Proc Plain)) (m : ℕ) (c : Block Plain) → Settled ps m (get_or v i' 0) c → (k : ℕ) (y r : Block Plain)
          → Spot k y r i' end c → Entry ps m (get_or v k 0) y r
      only v ps m c l k y r (here e f g) = rw (← e, ← f, ← g) (entry_to refl l)

-- the second branch
pub else_inside : {t : List ℕ} {i d k : ℕ} {x : Counted} → InstrIn t i d → get_or t i 0 ≡ 0x24 → ExprEnds t (i + 1) k → CountsBlock t k d x
    → x.next < length t
else_inside h q K X = (else_in h q K X).inside

-- where code goes on there is an entry
pub onward_below : {t : List ℕ} {i n f : ℕ} → Onward t i n f → n < positions → length t ≤ positions → f < positions
onward_below O h l = O.below h l

-- one law for each way
pub ruleset fill_ways = (
  else_inside,
  onward_below,
  fill_rest_inside,
  body_in_lem,
  then_in,
  else_in,
  fills_plain,
  fills_while,
  fills_if,
  fill_start,
  fill_instr_in,
  fill_rest_in,
  fill_next,
  fill_end,
)

-- ---- going on

module _ {t js : List ℕ} {k : ℕ} where
  -- at a block's end
  pub settles_end : {v : ℕ} → get_or t k 0 ≡ 0 → v ≡ get_or js k 0 → v < positions → Settles t js k v
  settles_end q e l = record { ended = λ z. e; other = λ n. absurd (n q); below = l }

  -- elsewhere
  pub settles_here : (get_or t k 0 ≡ 0 → ⊥) → k < length t → length t ≤ positions → Settles t js k k
  settles_here n l m = record { ended = λ q. absurd (n q); other = λ z. refl; below = omega arith }

-- a test holds
pub branch_yes : {t js : List ℕ} {k n v : ℕ} {q : Bool} → q ≡ true → Settles t js n v → Branches t js k q n v
branch_yes e S = record { yes = λ f. S; no = λ f. absurd (never (sym f ∙ e)) }

-- it fails
pub branch_no : {t js : List ℕ} {k n v : ℕ} {q : Bool} → q ≡ false → v ≡ get_or js k 0 → Branches t js k q n v
branch_no e h = record { yes = λ f. absurd (never (sym e ∙ f)); no = λ f. h }

-- one law for each way
pub ruleset settle_ways = (settles_end, settles_here, branch_yes, branch_no)
