-- Who calls whom, as the code marks it: mark m of row q says whether q calls m.
use Rattle.std.specs.Prelude.{ℕ, zero, suc, ◌+◌, ◌*◌, ◌≤◌, ◌<◌, ◌≡◌, ◌≢◌, ◌⊎◌, Bool, true, false, get_or, set, replicate, eqb, ltb}
use Rattle.scan.specs.declared.tokens.Token.TheVariants as T
use Rattle.std.proofs.Common.{le-ltb, lt-ltb, arith, ◌∙◌, inl, inr, get_or-set_other}
use Rattle.std.proofs.Math.Path.{refl, sym, ap}
use mathlib.Core.List.{List, [], ◌∷◌, ◌++◌}
use Rattle.std.proofs.Math.ListN.{length, length-set}
use Rattle.std.proofs.Math.Seq.{get_or-set_same}
use borrow.Author.Tests.{eqb-true, eqb-false, ltb-true, lt-ltb}
use Rattle.value.specs.Maybe.{pick}
use Rattle.value.proofs.Laws.Tests.{by_test, never}
use Rattle.value.proofs.Laws.Lists.{In, here, there}
use Rattle.format.specs.Syntax.{Program, Plain, concurrent}
use Rattle.format.specs.Rules.{limits, callees_of}
use Rattle.format.proofs.Laws.Accepted.{sound_formed}
use Rattle.format.proofs.Laws.Calls.{Calls}
use Rattle.format.proofs.Laws.Names.{all_names?}
use Rattle.format.proofs.Laws.TablePlaces.{body_at}
use Rattle.scan.specs.declared.tokens.Token.{Token}
use Rattle.scan.specs.Tokens.{token_at, size_at, tokens}
use Rattle.scan.specs.Laws.Tokens.{Row, token_falls}
use Rattle.scan.specs.Laws.Scans.{Scans, From, from_start, from_next, from_end}
use Rattle.scan.specs.Laws.Laid.{Laid, Named, Room, BodyStarts, BodyEnds, proc_of, body_row}
use Rattle.scan.specs.Laws.CallScans.{call_in, calls_in, block_calls}
use Rattle.scan.specs.Laws.CallEnds.{callees_of_lem, calls_there_lem}
use Rattle.places.specs.Placed.{Of, Source}

-- is m marked as one that q calls
abbrev pub marked_call : List (List Bool) → ℕ → ℕ → Bool
marked_call calls q m = get_or (get_or calls q []) m false

-- the marks of what a procedure calls, with those of more calls
unfoldable pub marking : List ℕ → List Bool → List Bool
marking [] called = called
marking (c ∷ cs) called = marking cs (pick (ltb c (limits concurrent).procs) (set called c true) called)

-- of the calls of tokens
unfoldable pub marked_by : List Bool → List Token → List Bool
marked_by called ks = marking (calls_in ks) called

-- the calls of the procedures before k are marked, and nothing else
pub record MarkedTo (k : ℕ) (calls : List (List Bool)) (p : Program Plain) : Type 0 where
  pub called : (q m : ℕ) → q < k → Calls p.procs q m → marked_call calls q m ≡ true
  pub only : (q m : ℕ) → m < (limits concurrent).procs → marked_call calls q m ≡ true → Calls p.procs q m

-- the calls of all
pub record Marked (t : List ℕ) (P R : ℕ) (calls : List (List Bool)) : Type 0 where
  pub gives : (p : Program Plain) → Of t P R p → MarkedTo P calls p

-- the loop over procedures
pub record Marking (t : List ℕ) (P R k : ℕ) (calls : List (List Bool)) : Type 0 where
  pub long : length calls ≡ (limits concurrent).procs
  pub rows : (q : ℕ) → q < (limits concurrent).procs → length (get_or calls q []) ≡ (limits concurrent).procs
  pub inside : k ≤ P
  pub gives : (p : Program Plain) → Of t P R p → MarkedTo k calls p

-- ---- the program of a table, as rule 7 sees it

-- its names mean something
pub named_of : {t : List ℕ} {P R : ℕ} {p : Program Plain} → Of t P R p → Named t P R p
named_of {p = p} o = record {
  laid = record { kind = concurrent; formed = rw o.is (sound_formed concurrent p o.sound); procs = o.procedures; records = o.records };
  named = (all_names? p).of o.sound.named;
}

-- its records are inside
pub room_of : {t : List ℕ} {P R : ℕ} → Source t P R → Room t P R
room_of s = record { few = omega (arith, s.few); room = s.inside; size = omega (arith, s.long) }

-- ---- a body

module _ (called : List Bool) {k : Token} {m n : ℕ} where
  -- a call of a procedure
  pub mark_one : k ≡ T.Call m n → m < (limits concurrent).procs → set called m true ≡ marking (call_in k) called
  unfolding marking
  mark_one e l = rw (e, lt-ltb m (limits concurrent).procs l)

  -- of none that there can be
  pub mark_far : k ≡ T.Call m n → (limits concurrent).procs ≤ m → called ≡ marking (call_in k) called
  unfolding marking
  mark_far e l = rw (e, le-ltb m (limits concurrent).procs l)

-- one list of calls after another
marking_append : (xs ys : List ℕ) (called : List Bool) → marking (xs ++ ys) called ≡ marking ys (marking xs called)
unfolding marking
marking_append [] ys called = refl
marking_append (c ∷ xs) ys called = marking_append xs ys _

module _ {t : List ℕ} {e : ℕ} (called : List Bool) {i : ℕ} where
  -- no token yet
  pub walk_start : From t e (marked_by called) i (marked_by called) i
  walk_start = from_start

  -- one more
  pub walk_next : {k n : ℕ} {a : Token} (now : List Bool) {new : List Bool} → From t e (marked_by called) i (marked_by now) k → k < e → a ≡ token_at t k
      → new ≡ marking (call_in a) now → n ≡ k + size_at t k → From t e (marked_by called) i (marked_by new) n
  unfolding marked_by
  walk_next {k} {n} {a} now {new} f l at-k put z =
      rw z (from_next (marked_by new) f l (λ ks. marking_append (call_in (token_at t k)) (calls_in ks) now ∙ rw (put, at-k)))

  -- all of them
  pub walk_end : {k : ℕ} (now : List Bool) → From t e (marked_by called) i (marked_by now) k → e ≤ k → Scans t e (marked_by called) i now
  unfolding marked_by marking
  walk_end now f l = from_end f l refl

-- ---- what is marked

-- a mark that is put loses none
set_keeps : (xs : List Bool) (j i : ℕ) → get_or xs i false ≡ true → get_or (set xs j true) i false ≡ true
set_keeps [] j i h = h
set_keeps (x ∷ xs) zero zero h = refl
set_keeps (x ∷ xs) zero (suc i) h = h
set_keeps (x ∷ xs) (suc j) zero h = h
set_keeps (x ∷ xs) (suc j) (suc i) h = set_keeps xs j i h

-- and is the only new one
set_only : {G : Type 0} (xs : List Bool) (j i : ℕ) → get_or (set xs j true) i false ≡ true → (i ≡ j → G) → (get_or xs i false ≡ true → G) → G
set_only xs j i h new old = by_test (eqb i j)
    (λ e. new (eqb-true i j e))
    (λ e. let other : i ≢ j = eqb-false i j e in old (rw (get_or-set_other xs j i true false other) at h))

-- no mark is lost
marking_keeps : (cs : List ℕ) (called : List Bool) (i : ℕ) → get_or called i false ≡ true → get_or (marking cs called) i false ≡ true
unfolding marking
marking_keeps [] called i h = h
marking_keeps (c ∷ cs) called i h = by_test (ltb c (limits concurrent).procs)
    (λ e. rw e (marking_keeps cs (set called c true) i (set_keeps called c i h)))
    (λ e. rw e (marking_keeps cs called i h))

-- as many as before
marking_long : (cs : List ℕ) (called : List Bool) → length (marking cs called) ≡ length called
unfolding marking
marking_long [] called = refl
marking_long (c ∷ cs) called = by_test (ltb c (limits concurrent).procs)
    (λ e. rw e (marking_long cs (set called c true) ∙ length-set called c true))
    (λ e. rw e (marking_long cs called))

-- each call is marked
marking_called : {c : ℕ} (cs : List ℕ) (called : List Bool) → In c cs → c < (limits concurrent).procs → c < length called
    → get_or (marking cs called) c false ≡ true
unfolding marking
marking_called (c ∷ cs) called here l room =
    rw (lt-ltb c (limits concurrent).procs l)
    (marking_keeps cs (set called c true) c (get_or-set_same called c true false room))
marking_called {c} (d ∷ cs) called (there i) l room = by_test (ltb d (limits concurrent).procs)
    (λ e. rw e (marking_called cs (set called d true) i l (omega (arith, room, length-set called d true))))
    (λ e. rw e (marking_called cs called i l room))
marking_called {c = c} [] called x3 l room = elim x3 [ ]

-- and nothing else
marking_only : {G : Type 0} (cs : List ℕ) (called : List Bool) (i : ℕ) → get_or (marking cs called) i false ≡ true
    → (In i cs → i < (limits concurrent).procs → G) → (get_or called i false ≡ true → G) → G
unfolding marking
marking_only [] called i h new old = old h
marking_only (c ∷ cs) called i h new old = by_test (ltb c (limits concurrent).procs)
    (λ e. marking_only cs (set called c true) i (rw e at h) (λ j. new (there j))
    (λ g. set_only called c i g (λ same. new (rw same here) (rw same (ltb-true _ _ e))) old))
    (λ e. marking_only cs called i (rw e at h) (λ j. new (there j)) old)

-- ---- the loop over procedures

-- no mark
none_marked : (n i : ℕ) → get_or {A = Bool} (replicate n false) i false ≡ false
none_marked zero i = refl
none_marked (suc n) zero = refl
none_marked (suc n) (suc i) = none_marked n i

-- the row of each procedure
row_of_rows : {A : Type 0} (n i : ℕ) (xs d : List A) → (get_or (replicate n xs) i d ≡ xs) ⊎ (get_or (replicate n xs) i d ≡ d)
row_of_rows zero i xs d = inr refl
row_of_rows (suc n) zero xs d = inl refl
row_of_rows (suc n) (suc i) xs d = row_of_rows n i xs d

row_within : {A : Type 0} (n i : ℕ) (xs d : List A) → i < n → get_or (replicate n xs) i d ≡ xs
row_within zero i xs d l = absurd (omega arith)
row_within (suc n) zero xs d l = refl
row_within (suc n) (suc i) xs d l = row_within n i xs d (omega arith)

-- all begin clear
abbrev pub no_calls : List (List Bool)
no_calls = replicate (limits concurrent).procs (replicate (limits concurrent).procs false)

pub none_called : (q m : ℕ) → marked_call no_calls q m ≡ true → ⊥
none_called q m h =
    elim (row_of_rows (limits concurrent).procs q (replicate (limits concurrent).procs false) []) [
      | inl e ↦ never (sym (none_marked (limits concurrent).procs m) ∙ ap (λ (r : List Bool). get_or r m false) (sym e) ∙ h)
      | inr e ↦ never (ap (λ (r : List Bool). get_or r m false) (sym e) ∙ h)
    ]

module _ {t : List ℕ} {P R : ℕ} where
  -- none yet
  pub marks_start : Marking t P R 0 no_calls
  marks_start = record {
    long = refl;
    rows = λ q l. ap length (row_within (limits concurrent).procs q (replicate (limits concurrent).procs false) [] l);
    inside = omega arith;
    gives = λ p o. record { called = λ q m l. absurd (omega arith); only = λ q m l h. absurd (none_called q m h) };
  }

  module _ {calls : List (List Bool)} where
    -- one procedure more
    pub marks_next : {k a e : ℕ} {row : List Bool} → Source t P R → Marking t P R k calls → k < P → BodyStarts t P R k a
        → BodyEnds t P R k e → Scans t e (marked_by (get_or calls k [])) a row → Marking t P R (k + 1) (set calls k row)
    unfolding marked_by
    marks_next {k} {a} {e} {row} S M l start ends scan = record {
      long = length-set calls k row ∙ M.long;
      rows = λ q b. by_test (eqb q k)
          (λ i. rw (eqb-true q k i, get_or-set_same calls k row [] inside)
          (ap length (put S.program S.of) ∙ marking_long (callees_of S.program.procs k) (get_or calls k []) ∙ M.rows k few))
          (λ i. let other : q ≢ k = eqb-false q k i in rw (get_or-set_other calls k q row [] other) (M.rows q b));
      inside = omega arith;
      gives = λ p o. record { called = called p o; only = only p o };
    }
      where
        few : k < (limits concurrent).procs
        few = omega (arith, S.few)

        inside : k < length calls
        inside = omega (arith, M.long, S.few)

        -- what was marked
        put : (p : Program Plain) → Of t P R p → row ≡ marking (callees_of p.procs k) (get_or calls k [])
        put p o =
            let laid : Laid t P R p = (named_of o).laid in
            let begins : body_at p.procs k ≡ a = sym (start.gives p laid) in
            let whole : Row t a (tokens (proc_of p k).body) e = rw (← begins, ends.gives p laid) (body_row laid l) in
            scan.gives _ whole ∙ ap (λ cs. marking cs (get_or calls k [])) (block_calls (proc_of p k).body ∙ sym (callees_of_lem (named_of o) l))

        called : (p : Program Plain) → Of t P R p → (q m : ℕ) → q < k + 1 → Calls p.procs q m → marked_call (set calls k row) q m ≡ true
        called p o q m b h =
            let below : m < P = calls_there_lem (named_of o) q m h in
            let high : m < (limits concurrent).procs = omega (arith, S.few) in
            by_test (eqb q k)
            (λ e. let same : q ≡ k = eqb-true q k e in
            rw (same, get_or-set_same calls k row [] inside, put p o)
            (marking_called (callees_of p.procs k) (get_or calls k []) (rw same at h) high (omega (arith, M.rows k few))))
            (λ e. let other : q ≢ k = eqb-false q k e in
            rw (get_or-set_other calls k q row [] other) ((M.gives p o).called q m (omega arith) h))

        only : (p : Program Plain) → Of t P R p → (q m : ℕ) → m < (limits concurrent).procs → marked_call (set calls k row) q m ≡ true → Calls p.procs q m
        only p o q m low h = by_test (eqb q k)
            (λ e. let same : q ≡ k = eqb-true q k e in
            rw same (marking_only (callees_of p.procs k) (get_or calls k []) m
            (rw (same, get_or-set_same calls k row [] inside, put p o) at h)
            (λ i b. i)
            (λ g. (M.gives p o).only k m low g)))
            (λ e. let other : q ≢ k = eqb-false q k e in
            (M.gives p o).only q m low (rw (get_or-set_other calls k q row [] other) at h))

    -- all of them
    pub marks_done : {k : ℕ} → Marking t P R k calls → P ≤ k → Marked t P R calls
    marks_done {k} M l = record { gives = λ p o. let same : k ≡ P = omega (arith, M.inside) in rw (← same) (M.gives p o) }

-- one law for each way
pub ruleset mark_ways = (walk_start, walk_next, walk_end, marks_start, marks_next, marks_done, room_of, token_falls)
