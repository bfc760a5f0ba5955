-- No fixed placement that keeps apart what is on one call path has a shorter row than the shared one: the procedures of a heaviest
-- path lie in any such row, each place of them apart.
use Rattle.std.specs.Prelude.{ℕ, zero, suc, ◌+◌, ◌≤◌, ◌<◌, ◌≡◌, refl, List, [], ◌∷◌, ◌++◌, length}
use Rattle.std.proofs.Common.{arith, sym, ◌∙◌, length-append}
use Rattle.value.specs.Lists.{upto}
use Rattle.value.proofs.Laws.Tests.{never}
use Rattle.value.proofs.Laws.Lists.{In, here, there, Each, each_append, each_in, in_either}
use Rattle.format.specs.Syntax.{Proc, Plain}
use Rattle.format.proofs.Laws.Calls.{Reaches, calls_below, Distinct, distinct_below}
use Rattle.translation.specs.Layout.{before}
use Rattle.translation.proofs.Laws.Procs.{before_next}
use Rattle.translation.specs.Placement.{locals_at, in_order, shared, row_length}
use Rattle.translation.proofs.Laws.Placing.Largest.{largest_above, largest_is, in_cons, in_upto, upto_in, in_member, not_member}
use Rattle.translation.proofs.Laws.Placing.Rounds.{Path, weight, Heaviest, rounds_path, path_reaches, path_below}
use Rattle.translation.proofs.Laws.Placing.Apart.{self, up, Apart, from, own_apart}

-- ---- distinct numbers

-- two lists that have nothing in common
distinct_append : (xs ys : List ℕ) → Distinct xs → Distinct ys → ((z : ℕ) → In z xs → In z ys → ⊥) → Distinct (xs ++ ys)
distinct_append [] ys d e h = e
distinct_append (x ∷ xs) ys d e h = (
  not_member x (xs ++ ys) (λ i. in_either xs ys i (λ j. never (sym d.0 ∙ in_member x xs j)) (λ j. h x here j)),
  distinct_append xs ys d.1 e (λ z i j. h z (there i) j),
)

-- ---- the places of one procedure

-- n places, from that of x on
abbrev places : (ℕ → ℕ) → ℕ → ℕ → List ℕ
places home x zero = []
places home x (suc n) = home x ∷ places home (suc x) n

-- so many
length_places : (home : ℕ → ℕ) (x n : ℕ) → length (places home x n) ≡ n
length_places home x zero = refl
length_places home x (suc n) = rw (length_places home (suc x) n)

-- a place of a procedure
record Place (home : ℕ → ℕ) (x n z : ℕ) : Type 0 where
  at : ℕ
  low : x ≤ at
  high : at < x + n
  is : z ≡ home at

-- each is the place of a local
in_places : (home : ℕ → ℕ) (x n : ℕ) {z : ℕ} → In z (places home x n) → Place home x n z
in_places home x (suc n) i =
    in_cons i
    (λ e. record { at = x; low = omega arith; high = omega arith; is = e })
    (λ j. let p = in_places home (suc x) n j in record { at = p.at; low = omega (arith, p.low); high = omega (arith, p.high); is = p.is })
in_places home x zero {z = z} i = elim i [ ]

-- where no two locals have one place
distinct_places : (home : ℕ → ℕ) (x n : ℕ) → ((a b : ℕ) → a < x + n → b < x + n → home a ≡ home b → a ≡ b) → Distinct (places home x n)
distinct_places home x zero h = tt
distinct_places home x (suc n) h = (
  not_member (home x) (places home (suc x) n)
      (λ i.
      let p = in_places home (suc x) n i in
      let e : x ≡ p.at = h x p.at (omega arith) (omega (arith, p.high)) p.is in
      omega (arith, p.low)),
  distinct_places home (suc x) n (λ a b lo lo' e. h a b (omega arith) (omega arith) e),
)

-- all are in the row
each_places : (P : ℕ → Type 0) (home : ℕ → ℕ) (x n : ℕ) → ((a : ℕ) → a < x + n → P (home a)) → Each P (places home x n)
each_places P home x zero h = tt
each_places P home x (suc n) h = (h x (omega arith), each_places P home (suc x) n (λ a lo. h a (omega arith)))

-- ---- the places of a path

module _ {A : Type 0} (ps : List (Proc A)) where
  -- all locals are in a row of so many places
  pub record Within (home : ℕ → ℕ → ℕ) (R : ℕ) : Type 0 where
    pub within : (m x : ℕ) → m < length ps → x < locals_at ps m → home m x < R

  module _ (home : ℕ → ℕ → ℕ) where
    -- the places of some procedures
    abbrev all_places : List ℕ → List ℕ
    all_places [] = []
    all_places (q ∷ qs) = places (home q) 0 (locals_at ps q) ++ all_places qs

    -- as many as they have locals
    length_all : (qs : List ℕ) → length (all_places qs) ≡ weight ps qs
    length_all [] = refl
    length_all (q ∷ qs) =
        omega (
          arith,
          length-append (places (home q) 0 (locals_at ps q)) (all_places qs),
          length_places (home q) 0 (locals_at ps q),
          length_all qs,
        )

    -- a place of some procedures
    record PlaceOf (qs : List ℕ) (z : ℕ) : Type 0 where
      proc : ℕ
      one : In proc qs
      local : ℕ
      low : local < locals_at ps proc
      is : z ≡ home proc local

    -- each is the place of a local of one of them
    in_all : (qs : List ℕ) {z : ℕ} → In z (all_places qs) → PlaceOf qs z
    in_all (q ∷ qs) i =
        in_either (places (home q) 0 (locals_at ps q)) (all_places qs) i
        (λ j.
        let p = in_places (home q) 0 (locals_at ps q) j in
        record { proc = q; one = here; local = p.at; low = omega (arith, p.high); is = p.is })
        (λ j. let p = in_all qs j in record { proc = p.proc; one = there p.one; local = p.local; low = p.low; is = p.is })
    in_all [] {z = z} i = elim i [ ]

    module _ (rule : (m : ℕ) → Reaches ps m m → ⊥) (apart : Apart ps home) where
      -- the places of a procedure and of those that reach it
      distinct_more : (m : ℕ) (qs : List ℕ) → m < length ps → Path ps m qs → Distinct (all_places qs) → Distinct (all_places (m ∷ qs))
      distinct_more m qs in_n w d =
          distinct_append (places (home m) 0 (locals_at ps m)) (all_places qs)
          (distinct_places (home m) 0 (locals_at ps m)
          (λ a b lo lo' e. (apart.apart m a m b in_n in_n self (omega arith) (omega arith) e).1))
          d
          (λ z i j.
          let p = in_places (home m) 0 (locals_at ps m) i in
          let o = in_all qs j in
          let r : Reaches ps o.proc m = path_reaches ps m qs w o.one in
          let there_too : o.proc < length ps = each_in (λ q. q < length ps) qs (path_below ps m qs w) o.one in
          let e : m ≡ o.proc
          = (apart.apart m p.at o.proc o.local in_n there_too (up r) (omega (arith, p.high)) o.low (sym p.is ∙ o.is)).0 in
          rule m (rw (← e) at r))

      -- on a path all places are apart
      distinct_path : (m : ℕ) (qs : List ℕ) → m < length ps → Path ps m qs → Distinct (all_places (m ∷ qs))
      distinct_path m [] in_n w = distinct_more m [] in_n tt tt
      distinct_path m (q ∷ qs) in_n w = distinct_more m (q ∷ qs) in_n w (distinct_path q qs (calls_below ps q m w.0) w.1)

      -- so a path is no heavier than the row is long
      pub path_fits : (R : ℕ) → Within home R → (m : ℕ) (qs : List ℕ) → m < length ps → Path ps m qs → locals_at ps m + weight ps qs ≤ R
      path_fits R fits m qs in_n w =
          omega (
            arith,
            length_all (m ∷ qs),
            distinct_below R (all_places (m ∷ qs)) (distinct_path m qs in_n w) (inside (m ∷ qs) (in_n, path_below ps m qs w)),
          )
        where
          inside : (qs : List ℕ) → Each (λ q. q < length ps) qs → Each (λ z. z < R) (all_places qs)
          inside [] h = tt
          inside (q ∷ qs) h =
              each_append (λ z. z < R) (places (home q) 0 (locals_at ps q)) (all_places qs)
              (each_places (λ z. z < R) (home q) 0 (locals_at ps q) (λ a lo. fits.within q a h.0 (omega arith)))
              (inside qs h.1)

      -- NO FIXED PLACEMENT THAT KEEPS APART WHAT IS ON ONE CALL PATH HAS A SHORTER ROW THAN THE SHARED ONE.
      pub shortest : (R : ℕ) → Within home R → row_length ps (shared ps) ≤ R
      shortest R fits =
          largest_is (λ m. shared ps m + locals_at ps m) (upto 0 (length ps))
          (λ z. omega (arith, z))
          (λ m i e.
          let h : Heaviest ps (length ps) m = rounds_path ps (length ps) m in
          omega (arith, e, h.sum, path_fits R fits m h.path (omega (arith, upto_in 0 (length ps) i)) h.goes))

  -- ---- rows

  -- a row by its largest end has a place for each local
  pub in_row : (start : ℕ → ℕ) (m : ℕ) → m < length ps → start m + locals_at ps m ≤ row_length ps start
  in_row start m in_n = largest_above (λ m. start m + locals_at ps m) (upto 0 (length ps)) (in_upto 0 (length ps) m (omega arith) (omega arith))

  -- so the shared row has
  pub row_within : (start : ℕ → ℕ) → Within (from ps start) (row_length ps start)
  row_within start = record { within = λ m x in_n lo. omega (arith, in_row start m in_n) }

-- the old row: the locals of all procedures
pub own_within : (ps : List (Proc Plain)) → Within ps (from ps (in_order ps)) (before ps (length ps))
own_within ps = record { within = λ m x in_n lo. omega (arith, before_next ps m (length ps) in_n) }

-- which is its largest end
pub own_row : (ps : List (Proc Plain)) → row_length ps (in_order ps) ≡ before ps (length ps)
own_row ps = omega (arith, low, shortest_end ps (length ps) (omega arith))
  where
    low : row_length ps (in_order ps) ≤ before ps (length ps)
    low =
        largest_is (λ m. in_order ps m + locals_at ps m) (upto 0 (length ps))
        (λ z. omega (arith, z))
        (λ m i e. omega (arith, e, before_next ps m (length ps) (omega (arith, upto_in 0 (length ps) i))))

    next : (ps : List (Proc Plain)) (k : ℕ) → before ps (suc k) ≤ before ps k + locals_at ps k
    next [] k = omega arith
    next (p ∷ []) zero = omega arith
    next (p ∷ (q ∷ ps)) zero = omega arith
    next (p ∷ ps) (suc k) = omega (arith, next ps k)

    first : (ps : List (Proc Plain)) → before ps 0 ≡ 0
    first [] = refl
    first (p ∷ ps) = refl

    shortest_end : (ps : List (Proc Plain)) (k : ℕ) → k ≤ length ps → before ps k ≤ row_length ps (in_order ps)
    shortest_end ps zero h = omega (arith, first ps)
    shortest_end ps (suc k) h = omega (arith, next ps k, in_row ps (in_order ps) k (omega arith))

-- SO THE SHARED ROW IS NEVER LONGER THAN THE OLD ONE.
pub shared_shorter : (ps : List (Proc Plain)) → ((m : ℕ) → Reaches ps m m → ⊥) → row_length ps (shared ps) ≤ before ps (length ps)
shared_shorter ps rule = shortest ps (from ps (in_order ps)) rule (own_apart ps) (before ps (length ps)) (own_within ps)
