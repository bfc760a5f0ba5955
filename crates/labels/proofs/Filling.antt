-- One law for each way through the walks that fill the label map.
use Prim.Native.Nat.{ℕ, suc, ◌+◌, ◌*◌, ◌-◌, ◌≤◌, ◌<◌}
use native.Mathlib.Omega.{arith}
use mathlib.Core.Path.{◌≡◌, refl, sym, ap, ap₂, subst, ◌∙◌}
use mathlib.Core.List.{List, [], ◌∷◌, ◌++◌}
use lib.ListN.{length, get_or, set, length-append}
use lib.Seq.{sets}
use Rattle.basics.specs.Laws.Places.{sets_append}
use Rattle.format.specs.Syntax.{Instr, assign, write, read, while, if, call, atomic, select, Block, end, step, Plain, concurrent}
use Rattle.format.specs.Encode.{expr, instr, block}
use Rattle.format.specs.Labels.{count, count_i, label, first}
use Rattle.labels.specs.Walks.{InstrIn, BlockIn, ExprEnds, counted, CountsInstr, CountsBlock, BeginsAt, next_of, other_of, numbers_i, numbers}
use Rattle.labels.specs.Walks.{Put, PutsNode, PutsBounds, FillsInstr, FillsBlock}
use Rattle.format.specs.Rules.{limits, max_labels}
use Rattle.format.proofs.Laws.Stands.{Stands}
use Rattle.format.proofs.Laws.Stands as Stands
use Rattle.format.proofs.Laws.Grammar
use Rattle.labels.specs.declared.count.Counted.{Counted}
use Rattle.labels.proofs.Counting.{instr_in, block_in, body_in_lem, then_in, else_in, then_counts}

-- ---- numbers put one after the other

-- the numbers of a label
pub put_four : {n n' : List ℕ} {l a b c d : ℕ} → n' ≡ set (set (set (set n (4 * l) a) (4 * l + 1) b) (4 * l + 2) c) (4 * l + 3) d
    → PutsNode n l a b c d n'
put_four {l = l} e =
    let one : 4 * l + 1 ≡ suc (4 * l) = omega arith in
    let two : 4 * l + 2 ≡ suc (suc (4 * l)) = omega arith in
    let three : 4 * l + 3 ≡ suc (suc (suc (4 * l))) = omega arith in
    record { gives = λ h. record { wrote = e ∙ rw (one, two, three) } }

-- a label that the map has no room for
pub put_none : {n n' : List ℕ} {l a b c d : ℕ} → max_labels < l → PutsNode n l a b c d n'
put_none h = record { gives = λ k. absurd (omega arith) }

pub ruleset put_ways = (put_four, put_none)

-- the bounds of a procedure
pub put_two : {n n' : List ℕ} {m a b : ℕ} → n' ≡ set (set n (2 * m + 0) a) (2 * m + 1) b → PutsBounds n m a b n'
put_two {m = m} e =
    let none : 2 * m + 0 ≡ 2 * m = omega arith in
    let one : 2 * m + 1 ≡ suc (2 * m) = omega arith in
    record { gives = λ h. record { wrote = e ∙ rw (none, one) } }

-- a procedure that there is no room for
pub put_no_bounds : {n n' : List ℕ} {m a b : ℕ} → (limits concurrent).procs ≤ m → PutsBounds n m a b n'
put_no_bounds h = record { gives = λ k. absurd (omega arith) }

pub ruleset bounds_ways = (put_two, put_no_bounds)

-- ---- the label that a block begins with

module _ {t : List ℕ} {i l k : ℕ} where
  -- of an empty block
  pub begin_after : get_or t i 0 ≡ 0 → BeginsAt t i l k k
  begin_after q = record { gives = λ d b j h. sym (ap (λ (c : Block Plain). first k (label l c)) (Grammar.end_here h q).0) }

  -- of another
  pub begin_first : (get_or t i 0 ≡ 0 → ⊥) → BeginsAt t i l k l
  begin_first q = record { gives = λ d b j h. sym (ap (λ (c : Block Plain). first k (label l c)) (Grammar.step_here h q).is) }

  -- where no block is
  pub begin_past : length t ≤ i → BeginsAt t i l k l
  begin_past p = record { gives = λ d b j h. absurd (omega (arith, (block_in h).inside)) }

pub ruleset begin_ways = (begin_after, begin_first, begin_past)

-- ---- how many numbers

module _ (m : ℕ) where
  mutual
    -- four for each label inside an instruction
    length_numbers_i : (s : Instr Plain) (i l k : ℕ) → 4 + length (numbers_i m i l s k) ≡ 4 * count_i s
    length_numbers_i (assign x e) i l k = refl
    length_numbers_i (write y o e) i l k = refl
    length_numbers_i (read x y o) i l k = refl
    length_numbers_i (while e b) i l k = omega (arith, length_numbers b (i + 1 + length (expr e)) (suc l) l)
    length_numbers_i (if e b f) i l k =
        let j : ℕ = i + 1 + length (expr e) in
        omega (
          arith,
          length-append (numbers m j (suc l) b k) (numbers m (j + length (block b)) (suc l + count b) f k),
          length_numbers b j (suc l) k,
          length_numbers f (j + length (block b)) (suc l + count b) k,
        )
    length_numbers_i (call q es) i l k = refl
    length_numbers_i (atomic b) i l k = refl
    length_numbers_i (select x y) i l k = refl

    -- and for each label of a block
    pub length_numbers : (b : Block Plain) (i l k : ℕ) → length (numbers m i l b k) ≡ 4 * count b
    length_numbers end i l k = refl
    length_numbers (step a s b) i l k =
        let next : ℕ = first k (label (l + count_i s) b) in
        omega (
          arith,
          length-append (numbers_i m i l s next) (numbers m (i + length (instr s)) (l + count_i s) b k),
          length_numbers_i s i l next,
          length_numbers b (i + length (instr s)) (l + count_i s) k,
        )

-- ---- instructions

-- numbers, and then those from a later label on
pub put_then : {w : ℕ} {n n' n'' : List ℕ} {l l' : ℕ} {xs ys : List ℕ} → Put w n l xs n' → w * l + length xs ≡ w * l' → Put w n' l' ys n''
    → Put w n l (xs ++ ys) n''
put_then {w} {n} {l = l} {xs = xs} {ys} P h Q = record {
  wrote = Q.wrote ∙ ap₂ (λ (z : List ℕ) (k : ℕ). sets z k ys) P.wrote (sym h) ∙ sym (sets_append n (w * l) xs ys);
}

-- the same numbers
pub put_same : {w : ℕ} {n n' : List ℕ} {l l' : ℕ} {xs ys : List ℕ} → l ≡ l' → xs ≡ ys → Put w n l xs n' → Put w n l' ys n'
put_same {w} {n} e f P = record { wrote = P.wrote ∙ ap₂ (λ (k : ℕ) (z : List ℕ). sets n (w * k) z) e f }

module _ {t : List ℕ} {i d l k m : ℕ} {n : List ℕ} where
  -- without blocks
  pub fills_plain : {n' : List ℕ} → (get_or t i 0 ≡ 0x23 → ⊥) → (get_or t i 0 ≡ 0x24 → ⊥) → PutsNode n l i m k 0 n' → FillsInstr t i d l k m n n'
  fills_plain {n'} a b P = record { gives = go }
    where
      go : (s : Instr Plain) (j : ℕ) → Grammar.InstrAt t i d s j → l + count_i s ≤ max_labels + 1
          → Put 4 n l (i ∷ m ∷ next_of l s k ∷ other_of l s k ∷ numbers_i m i l s k) n'
      go (assign x e) j h r = P.gives (omega arith)
      go (write y o e) j h r = P.gives (omega arith)
      go (read x y o) j h r = P.gives (omega arith)
      go (while e w) j h r = absurd (a (Stands.first h.stands))
      go (if e w f) j h r = absurd (b (Stands.first h.stands))
      go (call q es) j h r = P.gives (omega arith)
      go (atomic w) j h r = P.gives (omega arith)
      go (select x y) j h r = P.gives (omega arith)

  -- "23 e block": an empty loop body leads to the loop itself
  pub fills_while : {b f : ℕ} {n₁ n₂ : List ℕ} → get_or t i 0 ≡ 0x23 → ExprEnds t (i + 1) b → BeginsAt t b (l + 1) l f → PutsNode n l i m f k n₁
      → FillsBlock t b d (l + 1) l m n₁ n₂ → FillsInstr t i d l k m n n₂
  fills_while {b} {f} {n₁} {n₂} q B F P W = record {
    gives = λ s j h r.
        let w = Grammar.while_here h q in
        let next : l + 1 ≡ suc l = omega arith in
        let there : b ≡ w.k = B.ends w.e w.k w.test in
        let place : b ≡ i + 1 + length (expr w.e) = there ∙ w.test.stands.ends in
        let body : Grammar.BlockAt t b d w.b j = subst (λ (x : ℕ). Grammar.BlockAt t x d w.b j) (sym there) w.body in
        let few : l + suc (count w.b) ≤ max_labels + 1 = subst (λ (x : Instr Plain). l + count_i x ≤ max_labels + 1) w.is r in
        let begin : f ≡ first l (label (suc l) w.b) = F.gives d w.b j body ∙ ap (λ (x : ℕ). first l (label x w.b)) next in
        subst (λ (x : Instr Plain). Put 4 n l (i ∷ m ∷ next_of l x k ∷ other_of l x k ∷ numbers_i m i l x k) n₂) (sym w.is)
        (put_then
        (put_same refl (ap (λ (x : ℕ). i ∷ m ∷ x ∷ k ∷ []) begin) (P.gives (omega arith)))
        (omega arith)
        (put_same refl (ap₂ (λ (x y : ℕ). numbers m x y w.b l) place next) (W.gives w.b j body (omega arith))));
  }

  -- "24 e block block": an empty branch leads to what follows the if
  pub fills_if : {b f g : ℕ} {x : Counted} {n₁ n₂ n₃ : List ℕ} → get_or t i 0 ≡ 0x24 → ExprEnds t (i + 1) b → CountsBlock t b d x
      → BeginsAt t b (l + 1) k f → BeginsAt t x.next (l + 1 + x.labels) k g → PutsNode n l i m f g n₁
      → FillsBlock t b d (l + 1) k m n₁ n₂ → FillsBlock t x.next d (l + 1 + x.labels) k m n₂ n₃ → FillsInstr t i d l k m n n₃
  fills_if {b} {f} {g} {x} {n₁} {n₂} {n₃} q B X F G P Y N = record {
    gives = λ s j h r.
        let w = Grammar.if_here h q in
        let next : l + 1 ≡ suc l = omega arith in
        let there : b ≡ w.k = B.ends w.e w.k w.test in
        let place : b ≡ i + 1 + length (expr w.e) = there ∙ w.test.stands.ends in
        let then : Grammar.BlockAt t b d w.b w.l = subst (λ (z : ℕ). Grammar.BlockAt t z d w.b w.l) (sym there) w.first in
        let is : x ≡ counted w.l (count w.b) = then_counts w B X in
        let at : x.next ≡ w.l = ap (λ (z : Counted). z.next) is in
        let second : x.next ≡ i + 1 + length (expr w.e) + length (block w.b) = at ∙ then.stands.ends ∙ ap (◌+ length (block w.b)) place in
        let more : l + 1 + x.labels ≡ suc l + count w.b = ap₂ ◌+◌ next (ap (λ (z : Counted). z.labels) is) in
        let else : Grammar.BlockAt t x.next d w.c j = subst (λ (z : ℕ). Grammar.BlockAt t z d w.c j) (sym at) w.second in
        let few : l + suc (count w.b + count w.c) ≤ max_labels + 1 = subst (λ (z : Instr Plain). l + count_i z ≤ max_labels + 1) w.is r in
        let begin : f ≡ first k (label (suc l) w.b) = F.gives d w.b w.l then ∙ ap (λ (z : ℕ). first k (label z w.b)) next in
        let other : g ≡ first k (label (suc l + count w.b) w.c) = G.gives d w.c j else ∙ ap (λ (z : ℕ). first k (label z w.c)) more in
        subst (λ (z : Instr Plain). Put 4 n l (i ∷ m ∷ next_of l z k ∷ other_of l z k ∷ numbers_i m i l z k) n₃) (sym w.is)
        (put_then
        (put_same refl (ap₂ (λ (y z : ℕ). i ∷ m ∷ y ∷ z ∷ []) begin other) (P.gives (omega arith)))
        (omega arith)
        (put_then
        (put_same refl (ap₂ (λ (y z : ℕ). numbers m y z w.b k) place next) (Y.gives w.b w.l then (omega arith)))
        (omega (arith, length_numbers m w.b (i + 1 + length (expr w.e)) (suc l) k))
        (put_same refl (ap₂ (λ (y z : ℕ). numbers m y z w.c k) second more) (N.gives w.c j else (omega arith)))));
  }

-- ---- blocks

-- what is filled from i' and l' on, into n', fills the block at i
pub record Filling (t : List ℕ) (i d l k m : ℕ) (n : List ℕ) (i' l' : ℕ) (n' : List ℕ) : Type 0 where
  pub rest : BlockIn t i' d
  pub few : l' ≤ i' + 1
  pub back : (n'' : List ℕ) → FillsBlock t i' d l' k m n' n'' → FillsBlock t i d l k m n n''

module _ {t : List ℕ} {i d l k m : ℕ} {n : List ℕ} where
  -- from the beginning
  pub fill_start : BlockIn t i d → l ≤ i + 1 → Filling t i d l k m n i l n
  fill_start h f = record { rest = h; few = f; back = λ n'' F. F }

  -- the next instruction
  pub fill_instr_in : {i' l' : ℕ} {n' : List ℕ} → Filling t i d l k m n i' l' n' → (get_or t i' 0 ≡ 0 → ⊥) → InstrIn t i' (d - 1)
  fill_instr_in F q = instr_in (Grammar.step_here F.rest.there q).here

  pub fill_next : {i' l' f : ℕ} {n' n'' : List ℕ} {x : Counted} → Filling t i d l k m n i' l' n' → (get_or t i' 0 ≡ 0 → ⊥) → CountsInstr t i' (d - 1) x
      → BeginsAt t x.next (l' + x.labels) k f → FillsInstr t i' (d - 1) l' f m n' n'' → Filling t i d l k m n x.next (l' + x.labels) n''
  fill_next {i'} {l'} {f} {n'} {n''} {x} F q X B I =
      let w = Grammar.step_here F.rest.there q in
      let here : x ≡ counted w.k (count_i w.s) = X.gives w.s w.k w.here in
      record {
        rest = rw here (block_in w.after);
        few = omega (arith, F.few, X.room);
        back = λ n''' R. F.back n''' (record {
          gives = λ b j a r.
              let v = Grammar.step_here a q in
              let one : x ≡ counted v.k (count_i v.s) = X.gives v.s v.k v.here in
              let at : x.next ≡ v.k = ap (λ (z : Counted). z.next) one in
              let more : l' + x.labels ≡ l' + count_i v.s = ap (λ (z : Counted). l' + z.labels) one in
              let place : x.next ≡ i' + length (instr v.s) = at ∙ v.here.stands.ends in
              let rest : Grammar.BlockAt t x.next d v.rest j = subst (λ (z : ℕ). Grammar.BlockAt t z d v.rest j) (sym at) v.after in
              let few : l' + (count_i v.s + count v.rest) ≤ max_labels + 1 =
              subst (λ (z : Block Plain). l' + count z ≤ max_labels + 1) v.is r
              in
              let follow : f ≡ first k (label (l' + count_i v.s) v.rest) =
              B.gives d v.rest j rest ∙ ap (λ (z : ℕ). first k (label z v.rest)) more
              in
              subst (λ (z : Block Plain). Put 4 n' l' (numbers m i' l' z k) n''') (sym v.is)
              (put_then
              (put_same refl
              (ap (λ (z : ℕ). i' ∷ m ∷ next_of l' v.s z ∷ other_of l' v.s z ∷ numbers_i m i' l' v.s z) follow)
              (I.gives v.s v.k v.here (omega arith)))
              (omega (arith, length_numbers_i m v.s i' l' (first k (label (l' + count_i v.s) v.rest))))
              (put_same more (ap₂ (λ (y z : ℕ). numbers m y z v.rest k) place more) (R.gives v.rest j rest (omega arith))));
        });
      }

  -- "a block ends with byte 00"
  pub fill_end : {i' l' : ℕ} {n' : List ℕ} → Filling t i d l k m n i' l' n' → get_or t i' 0 ≡ 0 → FillsBlock t i d l k m n n'
  fill_end {i'} {l'} {n'} F q = F.back n' (record {
    gives = λ b j a r.
        subst (λ (z : Block Plain). Put 4 n' l' (numbers m i' l' z k) n') (sym (Grammar.end_here a q).0) (record { wrote = refl });
  })

pub ruleset fill_ways = (body_in_lem, then_in, else_in, fills_plain, fills_while, fills_if, fill_start, fill_instr_in, fill_next, fill_end)
