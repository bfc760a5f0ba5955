-- Starts that are raised round by round: a call raises the callee's start to where the caller's locals end.
use Rattle.std.specs.Prelude.{ℕ, zero, suc, ◌+◌, ◌*◌, max, ◌≤◌, ◌<◌, ◌≡◌, refl, ◌≢◌, List, [], ◌∷◌, Bool, true, false, set, replicate, eqb}
use Rattle.std.proofs.Common.{arith, add-one, sym, ap, ◌∙◌, get_or-set_same, get_or-set_other, eqb-true, Fits}
use Rattle.std.proofs.Math.ListN.{length, get_or, length-set}
use Rattle.std.proofs.lemmas.Bool.{eqb-false}
use Rattle.std.specs.Int.{w16}
use Rattle.value.specs.Maybe.{pick}
use Rattle.value.specs.Lists.{at, upto}
use Rattle.value.proofs.Laws.Tests.{by_test, never}
use Rattle.format.specs.Syntax.{Proc, Program, Plain, concurrent}
use Rattle.format.specs.Encode.{record_size}
use Rattle.format.specs.Rules.{limits, max_locals}
use Rattle.format.proofs.Laws.Calls.{Calls, calls_below}
use Rattle.translation.specs.declared.Mode.TheVariants.{Own, Shared}
use Rattle.translation.specs.Placement.{locals_of, before, locals_at, by_rounds, shared, row_length}
use Rattle.translation.proofs.Laws.Procs.{before_most}
use Rattle.translation.proofs.Laws.Placing.Largest.{largest_is, upto_in}
use Rattle.translation.proofs.Laws.Placing.Rounds.{shared_after}
use Rattle.translation.proofs.Laws.Placing.Passes.{Between, between_pass, between_end}
use Rattle.translation.proofs.Laws.Placing.Shortest.{in_row, shared_shorter}
use Rattle.scan.specs.Laws.Laid.{proc_at_lem, locals_at_lem}
use Rattle.scan.specs.Laws.CallEnds.{calls_there_lem}
use Rattle.places.specs.Placed.{Of, Source, PlacesOf}
use Rattle.places.specs.Laws.Marking.{Marked, named_of, room_of}

-- nothing but zeros
pub zeros : (n i : ℕ) → get_or {A = ℕ} (replicate n 0) i 0 ≡ 0
zeros zero i = refl
zeros (suc n) zero = refl
zeros (suc n) (suc i) = zeros n i

-- ---- what the code finds

-- where procedure m's locals end, by its record
unfoldable pub end_at : List ℕ → ℕ → List ℕ → ℕ → ℕ
end_at t R s m = get_or s m 0 + get_or t (R + record_size * m + 1) 0

-- where a procedure begins behind a caller's end, if it is called
unfoldable pub raised_to : Bool → ℕ → ℕ → ℕ
raised_to called start end = pick called (max start end) start

module _ (called : Bool) (start end : ℕ) where
  -- not called
  pub raised_none : called ≡ false → start ≡ raised_to called start end
  unfolding raised_to
  raised_none e = rw e

  -- called
  pub raised_max : {v : ℕ} → called ≡ true → v ≡ max start end → v ≡ raised_to called start end
  unfolding raised_to
  raised_max n e = rw n e

-- ---- what it keeps

-- starts that are not above the shared ones
pub record Low (t : List ℕ) (P R : ℕ) (s : List ℕ) : Type 0 where
  pub long : length s ≡ (limits concurrent).procs
  pub small : (m : ℕ) → m < P → get_or s m 0 ≤ (limits concurrent).procs * max_locals
  pub upper : (p : Program Plain) → Of t P R p → (m : ℕ) → get_or s m 0 ≤ shared p.procs m

-- the starts of the procedures before k that are called are raised to e, and no others
pub record Raising (calls : List Bool) (P e : ℕ) (s : List ℕ) (k : ℕ) (new : List ℕ) : Type 0 where
  pub long : length new ≡ (limits concurrent).procs
  pub kept : (m : ℕ) → get_or s m 0 ≤ get_or new m 0
  pub called : (m : ℕ) → m < k → get_or calls m false ≡ true → e ≤ get_or new m 0
  pub bound : (most : ℕ → ℕ) → ((m : ℕ) → get_or s m 0 ≤ most m) → ((m : ℕ) → m < P → get_or calls m false ≡ true → e ≤ most m)
      → (m : ℕ) → get_or new m 0 ≤ most m

-- of all procedures
pub record Raises (calls : List Bool) (P e : ℕ) (s new : List ℕ) : Type 0 where
  pub all : Raising calls P e s P new

-- a round over the callers before k: what they call begins after their ends
pub record Rounding (t : List ℕ) (P R : ℕ) (s : List ℕ) (k : ℕ) (new : List ℕ) : Type 0 where
  pub low : Low t P R new
  pub kept : (m : ℕ) → get_or s m 0 ≤ get_or new m 0
  pub after : (p : Program Plain) → Of t P R p → (q m : ℕ) → q < k → Calls p.procs q m → get_or s q 0 + locals_at p.procs q ≤ get_or new m 0

-- over all
pub record Round (t : List ℕ) (P R : ℕ) (s new : List ℕ) : Type 0 where
  pub low : Low t P R new
  pub after : (p : Program Plain) → Of t P R p → (q m : ℕ) → Calls p.procs q m → get_or s q 0 + locals_at p.procs q ≤ get_or new m 0

-- k rounds
pub record Rounds (t : List ℕ) (P R k : ℕ) (s : List ℕ) : Type 0 where
  pub low : Low t P R s
  pub inside : k ≤ P
  pub gives : (p : Program Plain) → Of t P R p → Between p.procs k (λ m. get_or s m 0)

-- the largest end of the procedures before k
pub record LongestTo (t : List ℕ) (P R : ℕ) (s : List ℕ) (k r : ℕ) : Type 0 where
  pub above : (p : Program Plain) → Of t P R p → (m : ℕ) → m < k → get_or s m 0 + locals_at p.procs m ≤ r
  pub least : (p : Program Plain) → Of t P R p → (most : ℕ) → ((m : ℕ) → m < P → get_or s m 0 + locals_at p.procs m ≤ most) → r ≤ most

-- of all
pub record Longest (t : List ℕ) (P R : ℕ) (s : List ℕ) (r : ℕ) : Type 0 where
  pub all : LongestTo t P R s P r

-- the starts of the procedures before k in order, and the locals of those
pub record InOrder (t : List ℕ) (P R k : ℕ) (s : List ℕ) (r : ℕ) : Type 0 where
  pub long : length s ≡ (limits concurrent).procs
  pub inside : k ≤ P
  pub most : r ≤ 255 * k
  pub starts : (p : Program Plain) → Of t P R p → (m : ℕ) → m < k → get_or s m 0 ≡ before p.procs m
  pub row : (p : Program Plain) → Of t P R p → r ≡ before p.procs k

-- ---- the locals of a procedure

module _ {t : List ℕ} {P R : ℕ} (p : Program Plain) (o : Of t P R p) where
  -- by its record
  locals_here : {m x : ℕ} → m < P → x ≡ get_or t (R + record_size * m + 1) 0 → x ≡ locals_at p.procs m
  locals_here l e = e ∙ locals_at_lem (named_of o).laid l ∙ sym (ap locals_of (proc_at_lem (named_of o).laid l))

  -- where they end
  end_here : (s : List ℕ) {m e : ℕ} → m < P → e ≡ end_at t R s m → e ≡ get_or s m 0 + locals_at p.procs m
  unfolding end_at
  end_here s {m} {e} l is = omega (arith, is, locals_here l refl)

  -- no shared start is large
  shared_small : {m : ℕ} → m < P → shared p.procs m ≤ (limits concurrent).procs * max_locals
  shared_small {m} l =
      omega (
        arith,
        in_row p.procs (shared p.procs) m (omega (arith, o.procedures)),
        shared_shorter p.procs o.sound.calls,
        before_most max_locals p.procs o.sound.locals,
        o.sound.procs.high,
      )

-- the end, as the code finds it
pub ends_here : (t : List ℕ) (R : ℕ) (s : List ℕ) (m : ℕ) {x : ℕ} → x ≡ get_or t (R + record_size * m + 1) 0 → get_or s m 0 + x ≡ end_at t R s m
unfolding end_at
ends_here t R s m e = rw e

-- which is small
pub end_fits : {t : List ℕ} {P R : ℕ} {s : List ℕ} {m x : ℕ} → Low t P R s → m < P → x < 256 → Fits w16 (get_or s m 0 + x)
end_fits {m = m} low l b = record { fits = omega (arith, low.small m l) }

-- ---- one caller

module _ {calls : List Bool} {P e : ℕ} {s : List ℕ} where
  -- nothing yet
  pub raise_start : length s ≡ (limits concurrent).procs → Raising calls P e s 0 s
  raise_start long = record { long = long; kept = λ m. omega arith; called = λ m l. absurd (omega arith); bound = λ most h g. h }

  module _ {k : ℕ} {new : List ℕ} (r : Raising calls P e s k new) where
    -- one procedure more
    pub raise_next : {v : ℕ} → P ≤ (limits concurrent).procs → k < P → v ≡ raised_to (get_or calls k false) (get_or new k 0) e
        → Raising calls P e s (k + 1) (set new k v)
    unfolding raised_to
    raise_next {v} few below is = record {
      long = length-set new k v ∙ r.long;
      kept = λ m. at_each (λ x. get_or s m 0 ≤ x) m (λ same. rw same (omega (arith, up.0, r.kept k))) (λ _. r.kept m);
      called = λ m l h. at_each (λ x. e ≤ x) m (λ same. up.1 (rw same at h)) (λ n. r.called m (omega arith) h);
      bound = λ most h g m. at_each (λ x. x ≤ most m) m (λ same. rw same (under most h g)) (λ _. r.bound most h g m);
    }
      where
        room : k < length new
        room = omega (arith, r.long)

        up : (get_or new k 0 ≤ v) × (get_or calls k false ≡ true → e ≤ v)
        up = by_test (get_or calls k false)
            (λ b. let same : v ≡ max (get_or new k 0) e = rw b at is in (omega arith, λ h. omega arith))
            (λ b. let same : v ≡ get_or new k 0 = rw b at is in (omega arith, λ h. absurd (never (sym b ∙ h))))

        under : (most : ℕ → ℕ) → ((m : ℕ) → get_or s m 0 ≤ most m) → ((m : ℕ) → m < P → get_or calls m false ≡ true → e ≤ most m) → v ≤ most k
        under most h g = by_test (get_or calls k false)
            (λ b. let same : v ≡ max (get_or new k 0) e = rw b at is in omega (arith, r.bound most h g k, g k below b))
            (λ b. let same : v ≡ get_or new k 0 = rw b at is in omega (arith, r.bound most h g k))

        at_each : (Q : ℕ → Type 0) (m : ℕ) → (m ≡ k → Q v) → (m ≢ k → Q (get_or new m 0)) → Q (get_or (set new k v) m 0)
        at_each Q m this that =
            by_test (eqb m k)
            (λ b. let same : m ≡ k = eqb-true m k b in rw (same, get_or-set_same new k v 0 room) (this same))
            (λ b. let other : m ≢ k = eqb-false m k b in rw (get_or-set_other new k m v 0 other) (that other))

    -- all of them
    pub raise_done : P ≤ k → Raises calls P e s new
    raise_done l = record {
      all = record { long = r.long; kept = r.kept; called = λ m b. r.called m (omega arith); bound = r.bound };
    }

-- ---- one round

module _ {t : List ℕ} {P R : ℕ} {s : List ℕ} where
  -- no caller yet
  pub round_start : Low t P R s → Rounding t P R s 0 s
  round_start low = record { low = low; kept = λ m. omega arith; after = λ p o q m l. absurd (omega arith) }

  -- one more
  pub round_next : {marks : List (List Bool)} {k e : ℕ} {now new : List ℕ} → Source t P R → Marked t P R marks → Rounding t P R s k now → k < P
      → e ≡ end_at t R now k → Raises (get_or marks k []) P e now new → Rounding t P R s (k + 1) new
  round_next {marks} {k} {e} {now} {new} S M r l ends raises = record {
    low = record {
      long = raises.all.long;
      small = λ m b. omega (arith, upper S.program S.of m, shared_small S.program S.of b);
      upper = upper;
    };
    kept = λ m. omega (arith, r.kept m, raises.all.kept m);
    after = after;
  }
    where
      upper : (p : Program Plain) → Of t P R p → (m : ℕ) → get_or new m 0 ≤ shared p.procs m
      upper p o =
          raises.all.bound (shared p.procs) (r.low.upper p o)
          (λ m b mark.
          let h : Calls p.procs k m = (M.gives p o).only k m (omega (arith, S.few)) mark in
          omega (arith, end_here p o now l ends, r.low.upper p o k, shared_after p.procs o.sound.calls k m h))

      after : (p : Program Plain) → Of t P R p → (q m : ℕ) → q < k + 1 → Calls p.procs q m → get_or s q 0 + locals_at p.procs q ≤ get_or new m 0
      after p o q m b h =
          by_test (eqb q k)
          (λ i. let same : q ≡ k = eqb-true q k i in
          let h' : Calls p.procs k m = rw same at h in
          let there : e ≤ get_or new m 0
          = raises.all.called m (calls_there_lem (named_of o) k m h') ((M.gives p o).called k m l h') in
          rw same (omega (arith, end_here p o now l ends, r.kept k)))
          (λ i. let other : q ≢ k = eqb-false q k i in omega (arith, r.after p o q m (omega arith) h, raises.all.kept m))

  -- all of them
  pub round_done : {k : ℕ} {new : List ℕ} → Rounding t P R s k new → P ≤ k → Round t P R s new
  round_done r l = record {
    low = r.low;
    after = λ p o q m h. r.after p o q m (omega (arith, calls_below p.procs q m h, o.procedures)) h;
  }

-- ---- all rounds

module _ {t : List ℕ} {P R : ℕ} where
  -- none yet
  pub rounds_start : Rounds t P R 0 (replicate (limits concurrent).procs 0)
  unfolding by_rounds
  rounds_start = record {
    low = record {
      long = refl;
      small = λ m l. omega (arith, zeros (limits concurrent).procs m);
      upper = λ p o m. omega (arith, zeros (limits concurrent).procs m);
    };
    inside = omega arith;
    gives = λ p o. record { lower = λ m. omega arith; upper = λ m. omega (arith, zeros (limits concurrent).procs m) };
  }

  -- one more
  pub rounds_next : {k : ℕ} {s new : List ℕ} → Rounds t P R k s → k < P → Round t P R s new → Rounds t P R (k + 1) new
  rounds_next {k} {s} {new} r l one = record {
    low = one.low;
    inside = omega arith;
    gives = λ p o.
        rw add-one
        (between_pass p.procs (λ q m h. omega (arith, (r.gives p o).lower q, one.after p o q m h)) (one.low.upper p o));
  }

-- ---- the row

module _ {t : List ℕ} {P R : ℕ} {s : List ℕ} where
  -- nothing yet
  pub longest_start : LongestTo t P R s 0 0
  longest_start = record { above = λ p o m l. absurd (omega arith); least = λ p o most h. omega arith }

  -- one more
  pub longest_next : {k r e v : ℕ} → LongestTo t P R s k r → k < P → e ≡ end_at t R s k → v ≡ max r e → LongestTo t P R s (k + 1) v
  longest_next {k} {r} {e} {v} L l ends is = record {
    above = λ p o m b. by_test (eqb m k)
        (λ i. rw (eqb-true m k i) (omega (arith, is, end_here p o s l ends)))
        (λ i. let other : m ≢ k = eqb-false m k i in omega (arith, is, L.above p o m (omega arith)));
    least = λ p o most h. omega (arith, is, h k l, L.least p o most h, end_here p o s l ends);
  }

  -- all of them
  pub longest_done : {k r : ℕ} → LongestTo t P R s k r → P ≤ k → Longest t P R s r
  longest_done L l = record { all = record { above = λ p o m b. L.above p o m (omega arith); least = L.least } }

  -- the places
  pub shared_places : {k r : ℕ} → Rounds t P R k s → P ≤ k → Longest t P R s r → PlacesOf t P R Shared (record { starts = s; row = r })
  shared_places {k} {r} rounds l longest = record { gives = λ p o. record { starts = λ m b. starts p o m; row = row p o } }
    where
      starts : (p : Program Plain) → Of t P R p → (m : ℕ) → get_or s m 0 ≡ shared p.procs m
      starts p o =
          let last : k ≡ length p.procs = omega (arith, rounds.inside, o.procedures) in
          between_end p.procs (rw last at (rounds.gives p o))

      row : (p : Program Plain) → Of t P R p → r ≡ row_length p.procs (shared p.procs)
      row p o = omega (arith, low, high)
        where
          low : r ≤ row_length p.procs (shared p.procs)
          low =
              longest.all.least p o _
              (λ m b. omega (arith, starts p o m, in_row p.procs (shared p.procs) m (omega (arith, o.procedures))))

          high : row_length p.procs (shared p.procs) ≤ r
          high =
              largest_is (λ m. shared p.procs m + locals_at p.procs m) (upto 0 (length p.procs))
              (λ z. omega (arith, z))
              (λ m i e.
              let b : m < P = omega (arith, o.procedures, upto_in 0 (length p.procs) i) in
              omega (arith, e, starts p o m, longest.all.above p o m b))

-- ---- the old mode

-- nothing before the first
before_none : (ps : List (Proc Plain)) → before ps 0 ≡ 0
before_none [] = refl
before_none (q ∷ ps) = refl

-- one procedure more
before_suc : (ps : List (Proc Plain)) (k : ℕ) → before ps (suc k) ≡ before ps k + locals_of (at ps k)
before_suc [] k = refl
before_suc (q ∷ ps) zero = omega (arith, before_none ps)
before_suc (q ∷ ps) (suc k) = omega (arith, before_suc ps k)

module _ {t : List ℕ} {P R : ℕ} where
  -- none yet
  pub order_start : InOrder t P R 0 (replicate (limits concurrent).procs 0) 0
  order_start = record {
    long = refl;
    inside = omega arith;
    most = omega arith;
    starts = λ p o m l. absurd (omega arith);
    row = λ p o. sym (before_none p.procs);
  }

  -- one more
  pub order_next : {k x r : ℕ} {s : List ℕ} → Source t P R → InOrder t P R k s r → k < P → x ≡ get_or t (R + record_size * k + 1) 0 → x < 256
      → InOrder t P R (k + 1) (set s k r) (r + x)
  order_next {k} {x} {r} {s} S i l locals small = record {
    long = length-set s k r ∙ i.long;
    inside = omega arith;
    most = omega (arith, i.most);
    starts = λ p o m b. by_test (eqb m k)
        (λ e. rw (eqb-true m k e, get_or-set_same s k r 0 (omega (arith, i.long, S.few))) (i.row p o))
        (λ e. let other : m ≢ k = eqb-false m k e in rw (get_or-set_other s k m r 0 other) (i.starts p o m (omega arith)));
    row = λ p o. rw add-one (omega (arith, i.row p o, locals_here p o l locals, before_suc p.procs k));
  }

  -- all of them
  pub order_done : {k r : ℕ} {s : List ℕ} → InOrder t P R k s r → P ≤ k → PlacesOf t P R Own (record { starts = s; row = r })
  order_done {k} {r} {s} i l = record {
    gives = λ p o.
        let last : k ≡ length p.procs = omega (arith, i.inside, o.procedures) in
        record { starts = λ m b. i.starts p o m (omega arith); row = i.row p o ∙ ap (before p.procs) last };
  }

-- one law for each way
pub ruleset raise_ways = (
  ends_here,
  end_fits,
  raise_start,
  raise_next,
  raise_done,
  round_start,
  round_next,
  round_done,
  rounds_start,
  rounds_next,
  longest_start,
  longest_next,
  longest_done,
  shared_places,
  order_start,
  order_next,
  order_done,
  room_of,
)
