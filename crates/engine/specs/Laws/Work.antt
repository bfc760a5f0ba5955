-- Words and frames of locals: what a store leaves, and where.
use Rattle.std.specs.Prelude.{ℕ, ◌+◌, ◌-◌, ◌≤◌, ◌<◌, ◌≡◌, refl, List, [], ◌∷◌, ◌++◌, map, length, get_or, set, replicate, eqb, ltb}
use Rattle.std.proofs.Common.{arith, sym, ap, ◌∙◌, length-set, length-append, get_or-set_same, get_or-set_other, get_or-append-add, eqb-true, ltb-true, ltb-false}
use Rattle.std.proofs.lemmas.List.{length-map, length-replicate, get_or-replicate}
use Rattle.std.proofs.Math.ListN.{get_or-append, get_or-eq_default}
use Rattle.std.proofs.lemmas.Bool.{eqb-false}
use Rattle.value.specs.Maybe.{is, nothing}
use Rattle.value.proofs.Laws.Tests.{by_test}
use Rattle.value.specs.declared.Value.{Value}
use Rattle.semantics.specs.Memory.{Env, lookup, bound}
use Rattle.engine.specs.Words.{held}
use Rattle.engine.specs.Work.{Puts, Beside, Clears, Framed}

-- ---- words

-- nothing was stored
pub beside_same : {ws : List ℕ} {a b : ℕ} → Beside ws ws a b
beside_same = record { long = refl; below = λ k l. refl; above = λ k l. refl }

-- one word was
pub beside_set : (ws : List ℕ) (i w : ℕ) → Beside ws (set ws i w) i (i + 1)
beside_set ws i w = record {
  long = length-set ws i w;
  below = λ k l. get_or-set_other ws i k w 0 (λ e. omega arith);
  above = λ k l. get_or-set_other ws i k w 0 (λ e. omega arith);
}

-- one more
pub beside_more : {ws ws' : List ℕ} {a i : ℕ} (w : ℕ) → a ≤ i → Beside ws ws' a i → Beside ws (set ws' i w) a (i + 1)
beside_more {ws} {ws'} {a} {i} w h s = record {
  long = length-set ws' i w ∙ s.long;
  below = λ k l. get_or-set_other ws' i k w 0 (λ e. omega arith) ∙ s.below k l;
  above = λ k l. get_or-set_other ws' i k w 0 (λ e. omega arith) ∙ s.above k (omega arith);
}

-- a value
pub beside_put : {ws ws' : List ℕ} {i : ℕ} {v : Value} → Puts ws ws' i v → Beside ws ws' i (i + 1)
beside_put {ws} {i = i} p = rw p.stored (beside_set ws i p.word)

-- the one changes what lies between, and the other too
pub beside_then : {ws ws' ws'' : List ℕ} {a b c : ℕ} → Beside ws ws' a b → Beside ws' ws'' b c → a ≤ b → b ≤ c → Beside ws ws'' a c
beside_then p q h l = record {
  long = q.long ∙ p.long;
  below = λ k m. q.below k (omega arith) ∙ p.below k m;
  above = λ k m. q.above k m ∙ p.above k (omega arith);
}

-- ---- words cleared one by one

-- a word that was cleared is 0, and so is one past the end
set_zero : (ws : List ℕ) (i : ℕ) → get_or (set ws i 0) i 0 ≡ 0
set_zero ws i = by_test (ltb i (length ws))
    (λ e. get_or-set_same ws i 0 0 (ltb-true i (length ws) e))
    (λ e. get_or-eq_default (set ws i 0) 0 (omega (arith, ltb-false i (length ws) e, length-set ws i 0)))

-- none yet
pub clears_none : {ws : List ℕ} {a b : ℕ} → b ≤ a → Clears ws ws a b
clears_none h = record { beside = beside_same; zero = λ k l m. absurd (omega arith) }

-- one more
pub clears_more : {ws ws' : List ℕ} {a i : ℕ} → a ≤ i → Clears ws ws' a i → Clears ws (set ws' i 0) a (i + 1)
clears_more {ws} {ws'} {a} {i} h s = record {
  beside = beside_more 0 h s.beside;
  zero = λ k m n. by_test (eqb k i)
      (λ e. let same : k ≡ i = eqb-true k i e in rw same (set_zero ws' i))
      (λ e. let other = eqb-false k i e in get_or-set_other ws' i k 0 0 other ∙ s.zero k m (omega arith));
}

-- all
pub clears_all : {ws ws' : List ℕ} {a i b : ℕ} → i ≤ b → b ≤ i → Clears ws ws' a i → Clears ws ws' a b
clears_all {ws} {ws'} {a} {i} {b} h l c = let same : i ≡ b = omega arith in rw (← same) c

-- as many words as before
pub clears_long : {ws ws' : List ℕ} {a i : ℕ} → Clears ws ws' a i → length ws' ≡ length ws
clears_long c = c.beside.long

-- ---- locals

-- a word of a frame is one of all, and holds its local
pub framed_get : {ls : List ℕ} {fb : ℕ} {ρ : Env} → Framed ls fb ρ → (x : ℕ) → x < length ρ
    → (fb + x < length ls) × (held (get_or ls (fb + x) 0) ≡ lookup ρ x)
framed_get f x l = (omega (arith, f.room), f.each x l)

-- a frame without locals
pub framed_none : {ls : List ℕ} {fb : ℕ} → fb ≤ length ls → Framed ls fb []
framed_none l = record { room = omega arith; each = λ x m. absurd (omega arith) }

-- a local is set
pub framed_put : {ls ls' : List ℕ} {fb x : ℕ} {ρ : Env} {v : Value} → Framed ls fb ρ → x < length ρ → Puts ls ls' (fb + x) v
    → Framed ls' fb (bound ρ x v)
framed_put {ls} {fb = fb} {x} {ρ} {v} f l p = rw p.stored (record {
  room = omega (arith, f.room, length-set ls (fb + x) p.word, length-set ρ x (is v));
  each = λ y m. by_test (eqb y x)
      (λ e.
      let same : y ≡ x = eqb-true y x e in
      rw (same, get_or-set_same ls (fb + x) p.word 0 (omega (arith, f.room)), get_or-set_same ρ x (is v) nothing l) p.holds)
      (λ e.
      let other = eqb-false y x e in
      let away : fb + y ≡ fb + x → ⊥ = λ q. other (omega arith) in
      ap held (get_or-set_other ls (fb + x) (fb + y) p.word 0 away)
      ∙ f.each y (omega (arith, length-set ρ x (is v)))
      ∙ sym (get_or-set_other ρ x y (is v) nothing other));
})

-- stores elsewhere leave a frame: those above it
pub framed_below : {ls ls' : List ℕ} {fb a b : ℕ} {ρ : Env} → Beside ls ls' a b → fb + length ρ ≤ a → Framed ls fb ρ → Framed ls' fb ρ
framed_below {fb = fb} s l f = record {
  room = omega (arith, f.room, s.long);
  each = λ x m. ap held (s.below (fb + x) (omega arith)) ∙ f.each x m;
}

-- and those below it
pub framed_above : {ls ls' : List ℕ} {fb a b : ℕ} {ρ : Env} → Beside ls ls' a b → b ≤ fb → Framed ls fb ρ → Framed ls' fb ρ
framed_above {fb = fb} s l f = record {
  room = omega (arith, f.room, s.long);
  each = λ x m. ap held (s.above (fb + x) (omega arith)) ∙ f.each x m;
}

-- one more local, set
pub framed_more : {ls ls' : List ℕ} {fb : ℕ} (ρ : Env) {v : Value} → Framed ls fb ρ → fb + length ρ < length ls → Puts ls ls' (fb + length ρ) v
    → Framed ls' fb (ρ ++ (is v ∷ []))
framed_more {ls} {ls'} {fb} ρ {v} f l p =
    let more : length (ρ ++ (is v ∷ [])) ≡ length ρ + 1 = length-append ρ (is v ∷ []) in
    record {
      room = omega (arith, (beside_put p).long);
      each = λ x m. by_test (ltb x (length ρ))
          (λ e.
          let low = ltb-true x (length ρ) e in
          ap held ((beside_put p).below (fb + x) (omega arith)) ∙ f.each x low ∙ sym (get_or-append ρ (is v ∷ []) nothing x low))
          (λ e.
          let last : x ≡ length ρ + 0 = omega (arith, ltb-false x (length ρ) e) in
          let here : fb + (length ρ + 0) ≡ fb + length ρ = omega arith in
          rw (last, p.stored, get_or-append-add ρ (is v ∷ []) 0 nothing, here, get_or-set_same ls (fb + length ρ) p.word 0 l) p.holds);
    }

-- the word 0 holds no value
held_zero : held 0 ≡ nothing
unfolding held
held_zero = refl

-- a frame whose other words were cleared: those locals are not set
pub framed_cleared : {ls ls' : List ℕ} {fb n : ℕ} (ρ : Env) → Framed ls fb ρ → length ρ ≤ n → fb + n ≤ length ls
    → Clears ls ls' (fb + length ρ) (fb + n) → Framed ls' fb (ρ ++ replicate (n - length ρ) nothing)
framed_cleared {ls} {ls'} {fb} {n} ρ f h l c =
    let left : Env = replicate (n - length ρ) nothing in
    let some : length left ≡ n - length ρ = length-replicate (n - length ρ) nothing in
    let all : length (ρ ++ left) ≡ n = omega (arith, length-append ρ left) in
    record {
      room = omega (arith, c.beside.long);
      each = λ x m. by_test (ltb x (length ρ))
          (λ e.
          let low = ltb-true x (length ρ) e in
          ap held (c.beside.below (fb + x) (omega arith)) ∙ f.each x low ∙ sym (get_or-append ρ left nothing x low))
          (λ e.
          let high = ltb-false x (length ρ) e in
          let place : x ≡ length ρ + (x - length ρ) = omega arith in
          let none : get_or (ρ ++ left) x nothing ≡ nothing =
          ap (λ y. get_or (ρ ++ left) y nothing) place
          ∙ get_or-append-add ρ left (x - length ρ) nothing
          ∙ get_or-replicate (n - length ρ) (x - length ρ) nothing nothing (omega arith)
          in
          ap held (c.zero (fb + x) (omega arith) (omega arith)) ∙ held_zero ∙ sym none);
    }

-- the frame of a call: its arguments, and its other locals not set
pub framed_entered : {ls ls' : List ℕ} {fb n : ℕ} (vs : List Value) → Framed ls fb (map is vs) → length vs ≤ n → fb + n ≤ length ls
    → Clears ls ls' (fb + length vs) (fb + n) → Framed ls' fb (map is vs ++ replicate (n - length vs) nothing)
framed_entered vs f h l c =
    let same : length (map is vs) ≡ length vs = length-map vs is in
    rw (← same) (framed_cleared (map is vs) f (omega arith) l (rw same c))

-- one law for each way through the loop that clears
pub ruleset clear_ways = (clears_none, clears_more, clears_all, clears_long)
