-- What is set: rule 8. More set before a block, more set after it.
use Rattle.std.specs.Prelude.{ℕ, ◌≡◌, refl, List, Bool, true, eqb}
use Rattle.std.proofs.Common.{eq-eqb}
use Rattle.value.specs.Maybe.{Maybe, is, ◌>>=◌, both}
use Rattle.value.specs.Lists.{all}
use Rattle.value.proofs.Laws.Maybes.{is_inj, bind_is, when_is}
use Rattle.value.proofs.Laws.Tests.{itself, both_passed, pass_both, either_passed, either_left, either_right}
use Rattle.value.proofs.Laws.Lists.{each_so, all_pass, all_passed}
use Rattle.format.specs.Syntax.{Expr, constant, local, one, two}
use Rattle.format.specs.Syntax.{Instr, assign, write, read, while, if, call, atomic, select, Block, end, step, ◌⊕◌}
use Rattle.format.specs.Rules.{Known, with, known, after_i, after}
use Rattle.format.proofs.Laws.Reading.{If, so, chain, tested, if_so, known_is}

-- all that is set in s is set in u
infix 20 ◌⊆◌
abbrev pub ◌⊆◌ : Known → Known → Type 0
s ⊆ u = (x : ℕ) → s x ≡ true → u x ≡ true

-- more than more
pub and_more : {s u v : Known} → s ⊆ u → u ⊆ v → s ⊆ v
and_more h k x e = k x (h x e)

-- what is set is set
pub set_there : (s : Known) (x : ℕ) → with s x x ≡ true
set_there s x = rw (eq-eqb x x refl)

-- and all that was
pub set_more : (s : Known) (x : ℕ) → s ⊆ with s x
set_more s x y e = either_right (eqb x y) e

-- what is set before an instruction or a block is set after it
mutual
  grows_i : {A : Type 0} (i : Instr A) (s : Known) → If (λ u. s ⊆ u) (after_i s i)
  grows_i (assign x e) s = tested _ (itself (known s e)) λ _. so (set_more s x)
  grows_i (write y o e) s = tested _ (itself (both (s y) (both (known s o) (known s e)))) λ _. so (λ x e. e)
  grows_i (read x y o) s = tested _ (itself (both (s y) (known s o))) λ _. so (set_more s x)
  grows_i (while e b) s = tested _ (itself (known s e)) λ _. chain _ (grows b s) λ u h. so (λ x e. e)
  grows_i (if e a b) s = tested _ (itself (known s e)) λ _. chain _ (grows a s) λ u h. chain _ (grows b s) λ v k. so (λ x e. pass_both (h x e) (k x e))
  grows_i (call m es) s = tested _ (itself (all (known s) es)) λ _. so (λ x e. e)
  grows_i (atomic b) s = grows b s
  grows_i (select a b) s = so (λ x e. e)

  -- of a block
  pub grows : {A : Type 0} (b : Block A) (s : Known) → If (λ u. s ⊆ u) (after s b)
  grows end s = so (λ x e. e)
  grows (step a i b) s = chain _ (grows_i i s) λ u h. if_so (λ v k x e. k x (h x e)) (grows b u)

-- what is known where s is set is known where more is set
pub known_more : (e : Expr) {s u : Known} → s ⊆ u → known s e ≡ true → known u e ≡ true
known_more (constant v) h k = refl
known_more (local x) h k = h x k
known_more (one o a) h k = known_more a h k
known_more (two o a b) {s} h k =
    let parts : (known s a ≡ true) × (known s b ≡ true) = both_passed _ _ k in pass_both (known_more a h parts.0) (known_more b h parts.1)

-- so are all of them
pub all_more : (es : List Expr) {s u : Known} → s ⊆ u → all (known s) es ≡ true → all (known u) es ≡ true
all_more es {s} {u} h k = all_pass (known u) es (each_so (λ e p. known_more e h p) es (all_passed (known s) es k))

-- and what an assignment sets besides
with_more : (x : ℕ) {s u : Known} → s ⊆ u → with s x ⊆ with u x
with_more x {s} {u} h y e = either_passed (eqb x y) (s y) e (either_left (u y)) (λ k. either_right (eqb x y) (h y k))

-- ---- what a block sets, from more known variables

-- there is a set after it, which has all that u has
abbrev pub More : Known → Maybe Known → Type 0
More u r = (w : Known) × (r ≡ is w) × (u ⊆ w)

-- the same set under another name
more_than : {a b : Known} (w : Known) → is a ≡ is b → a ⊆ w → b ⊆ w
more_than {a} {b} w e h = rw (← is_inj e) h

-- two tests that pass more often
both_more : (a b a' b' : Bool) → (a ≡ true → a' ≡ true) → (b ≡ true → b' ≡ true) → both a b ≡ true → both a' b' ≡ true
both_more a b a' b' f g e = rw (f (both_passed a b e).0) (g (both_passed a b e).1)

module _ {A : Type 0} where
  mutual
    -- of an instruction
    after_i_more : (i : Instr A) (s s' : Known) → s ⊆ s' → (u : Known) → after_i s i ≡ is u → More u (after_i s' i)
    after_i_more (assign x e) s s' h u r =
        let q : (known s e ≡ true) × (is (with s x) ≡ is u) = when_is (known s e) (is (with s x)) r in
        (with s' x, rw (known_more e h q.0), more_than _ q.1 (with_more x h))
    after_i_more (write y o e) s s' h u r =
        let q : (both (s y) (both (known s o) (known s e)) ≡ true) × (is s ≡ is u) = when_is _ (is s) r in (
          s',
          rw (both_more (s y) _ (s' y) _ (h y)
              (both_more (known s o) (known s e) (known s' o) (known s' e) (known_more o h) (known_more e h))
              q.0),
          more_than _ q.1 h,
        )
    after_i_more (read x y o) s s' h u r =
        let q : (both (s y) (known s o) ≡ true) × (is (with s x) ≡ is u) = when_is _ (is (with s x)) r in
        (with s' x, rw (both_more (s y) (known s o) (s' y) (known s' o) (h y) (known_more o h) q.0), more_than _ q.1 (with_more x h))
    after_i_more (while e b) s s' h u r =
        let q : (known s e ≡ true) × ((after s b >>= λ _. is s) ≡ is u) = when_is (known s e) _ r in
        let p : (w : Known) × (after s b ≡ is w) × (is s ≡ is u) = bind_is (after s b) _ q.1 in
        let m : More p.0 (after s' b) = after_more b s s' h p.0 p.1 in
        (s', rw (known_more e h q.0, m.1), more_than _ p.2 h)
    after_i_more (if e b c) s s' h u r =
        let q : (known s e ≡ true) × ((after s b >>= λ v. after s c >>= λ w. is (λ x. both (v x) (w x))) ≡ is u) = when_is (known s e) _ r in
        let p : (v : Known) × (after s b ≡ is v) × ((after s c >>= λ w. is (λ x. both (v x) (w x))) ≡ is u) = bind_is (after s b) _ q.1 in
        let o : (w : Known) × (after s c ≡ is w) × (is (λ x. both (p.0 x) (w x)) ≡ is u) = bind_is (after s c) _ p.2 in
        let m : More p.0 (after s' b) = after_more b s s' h p.0 p.1 in
        let n : More o.0 (after s' c) = after_more c s s' h o.0 o.1 in (
          (λ x. both (m.0 x) (n.0 x)),
          rw (known_more e h q.0, m.1, n.1),
          more_than _ o.2 (λ x. both_more (p.0 x) (o.0 x) (m.0 x) (n.0 x) (m.2 x) (n.2 x)),
        )
    after_i_more (call m es) s s' h u r =
        let q : (all (known s) es ≡ true) × (is s ≡ is u) = when_is (all (known s) es) (is s) r in
        (s', rw (all_more es h q.0), more_than _ q.1 h)
    after_i_more (atomic b) s s' h u r = after_more b s s' h u r
    after_i_more (select a b) s s' h u r = (s', refl, more_than _ r h)

    -- more variables known before a block, more known after it
    pub after_more : (c : Block A) (s s' : Known) → s ⊆ s' → (u : Known) → after s c ≡ is u → More u (after s' c)
    after_more end s s' h u r = (s', refl, more_than _ r h)
    after_more (step a i c) s s' h u r =
        let p : (w : Known) × (after_i s i ≡ is w) × (after w c ≡ is u) = bind_is (after_i s i) _ r in
        let m : More p.0 (after_i s' i) = after_i_more i s s' h p.0 p.1 in
        let n : More u (after m.0 c) = after_more c p.0 m.0 m.2 u p.2 in
        (n.0, rw m.1 n.1, n.2)

  -- what is known before a block is known after it
  pub after_grows : (c : Block A) (s u : Known) → after s c ≡ is u → s ⊆ u
  after_grows c s u e = known_is u e (grows c s)

  -- one block after another
  pub after_append : (b c : Block A) (s u : Known) {w : Known} → after s b ≡ is u → after u c ≡ is w → after s (b ⊕ c) ≡ is w
  after_append end c s u p q = rw (is_inj p) q
  after_append (step a i b) c s u p q =
      let r : (v : Known) × (after_i s i ≡ is v) × (after v b ≡ is u) = bind_is (after_i s i) _ p in
      rw r.1 (after_append b c r.0 u r.2 q)
