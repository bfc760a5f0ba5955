-- No procedure can reach itself by calls: the test with a bound on the calls decides it without one.
use Rattle.std.specs.Prelude.{ℕ, zero, suc, ◌≤◌, ◌<◌, ◌≡◌, refl, ◌≢◌, List, [], ◌∷◌, Bool, true, false, not, length, eqb}
use Rattle.std.proofs.Common.{arith, sym, ◌∙◌, eqb-true, eq-eqb}
use Rattle.std.proofs.lemmas.Bool.{eqb-false}
use Rattle.std.proofs.Math.Path.{subst⁻¹}
use Rattle.value.specs.Maybe.{either}
use Rattle.value.specs.Lists.{upto}
use Rattle.value.proofs.Laws.Tests.{Decides, never, either_passed, either_left, either_right, either_failed, by_test}
use Rattle.value.proofs.Laws.Lists.{In, each_in, member, some_pass, some_passed, each_upto, upto_each, Each, all?}
use Rattle.format.specs.Syntax.{Proc, Program}
use Rattle.format.specs.Rules.{callees_of, reaches, no_cycle}

-- ---- lists without repetition

-- no number stands twice
abbrev pub Distinct : List ℕ → Type 0
Distinct [] = Unit {0}
Distinct (x ∷ xs) = (member x xs ≡ false) × Distinct xs

-- all but n
abbrev unless : Bool → ℕ → List ℕ → List ℕ
unless true x xs = xs
unless false x xs = x ∷ xs

-- all others
abbrev without : ℕ → List ℕ → List ℕ
without n [] = []
without n (x ∷ xs) = unless (eqb x n) x (without n xs)

module _ (n : ℕ) where
  -- what was not there is not there
  member_without : (x : ℕ) (xs : List ℕ) → member x xs ≡ false → member x (without n xs) ≡ false
  member_without x [] h = refl
  member_without x (y ∷ ys) h =
      let no : (eqb y x ≡ false) × (member x ys ≡ false) = either_failed _ _ h in
      by_test (eqb y n) (λ e. rw e (member_without x ys no.1)) (λ e. rw (e, no.0) (member_without x ys no.1))

  -- still no number twice
  distinct_without : (xs : List ℕ) → Distinct xs → Distinct (without n xs)
  distinct_without [] h = tt
  distinct_without (x ∷ xs) h = by_test (eqb x n)
      (λ e. rw e (distinct_without xs h.1))
      (λ e. rw e (member_without x xs h.0, distinct_without xs h.1))

  -- all are below n
  below_without : (xs : List ℕ) → Each (λ x. x < suc n) xs → Each (λ x. x < n) (without n xs)
  below_without [] h = tt
  below_without (x ∷ xs) h =
      by_test (eqb x n) (λ e. rw e (below_without xs h.1)) λ e.
      let other : x ≢ n = eqb-false x n e in
      rw e (omega (arith, h.0), below_without xs h.1)

  -- if n was not there, nothing changes
  without_none : (xs : List ℕ) → member n xs ≡ false → without n xs ≡ xs
  without_none [] h = refl
  without_none (x ∷ xs) h = let no : (eqb x n ≡ false) × (member n xs ≡ false) = either_failed _ _ h in rw (no.0, without_none xs no.1)

  -- at most one is less
  length_without : (xs : List ℕ) → Distinct xs → length xs ≤ suc (length (without n xs))
  length_without [] h = omega arith
  length_without (x ∷ xs) h =
      by_test (eqb x n)
      (λ e. rw (e, without_none xs (rw (eqb-true x n e) at h.0)) (omega arith))
      (λ e. rw e (omega (arith, length_without xs h.1)))

-- distinct numbers below n are not more than n
pub distinct_below : (n : ℕ) (xs : List ℕ) → Distinct xs → Each (λ x. x < n) xs → length xs ≤ n
distinct_below zero [] d h = omega arith
distinct_below zero (x ∷ xs) d h = absurd (omega (arith, h.0))
distinct_below (suc n) xs d h =
    omega (arith, length_without n xs d, distinct_below n (without n xs) (distinct_without n xs d) (below_without n xs h))

-- ---- walks along calls

module _ {A : Type 0} (ps : List (Proc A)) where
  -- procedure m holds a call of n: Laws.Callees says where such a call may stand
  abbrev pub Calls : ℕ → ℕ → Type 0
  Calls m n = In n (callees_of ps m)

  -- m can reach n by calls
  pub data Reaches : ℕ → ℕ → Type 0 where
    direct : {m n : ℕ} → Calls m n → Reaches m n
    onward : {m c n : ℕ} → Calls m c → Reaches c n → Reaches m n

  -- from m over these to the last of them, which is n
  abbrev pub Walk : ℕ → List ℕ → ℕ → Type 0
  Walk m [] n = m ≡ n
  Walk m (c ∷ cs) n = Calls m c × Walk c cs n

  -- such a walk
  walk : {m n : ℕ} → Reaches m n → (c : ℕ) × (cs : List ℕ) × Calls m c × Walk c cs n
  walk (direct h) = (_, [], h, refl)
  walk (onward h r) = let next : (c : ℕ) × (cs : List ℕ) × Calls _ c × Walk c cs _ = walk r in (_, next.0 ∷ next.1, h, (next.2, next.3))

  -- only procedures that are there call
  pub calls_below : (m n : ℕ) → Calls m n → m < length ps
  calls_below m n h = below ps m h
    where
      below : (ps : List (Proc A)) (m : ℕ) → In n (callees_of ps m) → m < length ps
      below [] m h = each_in (λ x. m < 0) [] tt h
      below (p ∷ ps) zero h = omega arith
      below (p ∷ ps) (suc m) h = omega (arith, below ps m h)

  -- all on the way are procedures
  walk_below : (m : ℕ) (cs : List ℕ) (n : ℕ) → Walk m cs n → n < length ps → Each (λ x. x < length ps) (m ∷ cs)
  walk_below m [] n w h = (omega arith, tt)
  walk_below m (c ∷ cs) n w h = (calls_below m c w.0, walk_below c cs n w.1 h)

  -- a walk that begins again where it has been
  shortcut : (x m : ℕ) (cs : List ℕ) (n : ℕ) → member x (m ∷ cs) ≡ true → Walk m cs n → Distinct (m ∷ cs)
      → (us : List ℕ) × Walk x us n × Distinct (x ∷ us)
  shortcut x m [] n h w d =
      either_passed (eqb m x) false h
      (λ e. ([], sym (eqb-true m x e) ∙ w, (refl, tt)))
      (λ no. absurd (never no))
  shortcut x m (c ∷ cs) n h w d =
      either_passed (eqb m x) (member x (c ∷ cs)) h
      (λ e. let same : x ≡ m = sym (eqb-true m x e) in (c ∷ cs, rw same w, subst⁻¹ (λ y. Distinct (y ∷ c ∷ cs)) same d))
      (λ later. shortcut x c cs n later w.1 d.1)

  -- every walk can be made without repetition
  simple : (m : ℕ) (cs : List ℕ) (n : ℕ) → Walk m cs n → (us : List ℕ) × Walk m us n × Distinct (m ∷ us)
  simple m [] n w = ([], w, (refl, tt))
  simple m (c ∷ cs) n w =
      let rest : (us : List ℕ) × Walk c us n × Distinct (c ∷ us) = simple c cs n w.1 in
      by_test (member m (c ∷ rest.0))
      (λ e. shortcut m c rest.0 n e rest.1 rest.2)
      (λ e. (c ∷ rest.0, (w.0, rest.1), (e, rest.2)))

  -- the test finds a walk of at most k calls
  finds : (k m c : ℕ) (cs : List ℕ) (n : ℕ) → Calls m c → Walk c cs n → length cs < k → reaches ps k m n ≡ true
  finds zero m c cs n h w room = absurd (omega arith)
  finds (suc k) m c [] n h w room = some_pass _ (callees_of ps m) h (either_left (reaches ps k c n) (eq-eqb c n w))
  finds (suc k) m c (d ∷ cs) n h w room = some_pass _ (callees_of ps m) h (either_right (eqb c n) (finds k c d cs n w.0 w.1 (omega arith)))

  -- and nothing else
  found : (k m n : ℕ) → reaches ps k m n ≡ true → Reaches m n
  found zero m n e = absurd (never e)
  found (suc k) m n e =
      let first : (c : ℕ) × In c (callees_of ps m) × (either (eqb c n) (reaches ps k c n) ≡ true) = some_passed _ (callees_of ps m) e in
      let c : ℕ = first.0 in
      either_passed (eqb c n) (reaches ps k c n) first.2
      (λ e. direct (rw (eqb-true c n e) at first.1))
      (λ r. onward first.1 (found k c n r))

  -- so it finds every way back
  finds_all : (m : ℕ) → Reaches m m → reaches ps (length ps) m m ≡ true
  finds_all m r =
      let way : (c : ℕ) × (cs : List ℕ) × Calls m c × Walk c cs m = walk r in
      let short : (us : List ℕ) × Walk way.0 us m × Distinct (way.0 ∷ us) = simple way.0 way.1 m way.3 in
      let room : length (way.0 ∷ short.0) ≤ length ps
      = distinct_below (length ps) (way.0 ∷ short.0) short.2 (walk_below way.0 short.0 m short.1 (calls_below m way.0 way.2)) in
      finds (length ps) m way.0 short.0 m way.2 short.1 (omega arith)

-- ---- the test of rule 7

-- the test passes exactly if no procedure reaches itself
pub no_cycle? : {A : Type 0} (p : Program A) → Decides (no_cycle p) ((m : ℕ) → Reaches p.procs m m → ⊥)
no_cycle? p = record { so = so; of = of }
  where
    fails : (b : Bool) → Decides (not b) (b ≡ false)
    fails true = record { so = λ e. sym e; of = λ e. sym e }
    fails false = record { so = λ e. refl; of = λ e. refl }

    tests : Decides (no_cycle p) (Each (λ m. reaches p.procs (length p.procs) m m ≡ false) (upto 0 (length p.procs)))
    tests = all? (λ m. fails (reaches p.procs (length p.procs) m m)) (upto 0 (length p.procs))

    so : no_cycle p ≡ true → (m : ℕ) → Reaches p.procs m m → ⊥
    so e m r =
        let way : (c : ℕ) × (cs : List ℕ) × Calls p.procs m c × Walk p.procs c cs m = walk p.procs r in
        let none : reaches p.procs (length p.procs) m m ≡ false
        = each_upto _ 0 (length p.procs) (tests.so e) m (omega arith) (omega (arith, calls_below p.procs m way.0 way.2)) in
        never (sym none ∙ finds_all p.procs m r)

    of : ((m : ℕ) → Reaches p.procs m m → ⊥) → no_cycle p ≡ true
    of h =
        tests.of
        (upto_each _
        (λ m. by_test (reaches p.procs (length p.procs) m m) (λ e. absurd (h m (found p.procs (length p.procs) m m e))) (λ e. e))
        0
        (length p.procs))
