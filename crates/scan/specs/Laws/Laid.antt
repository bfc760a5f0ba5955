-- The program of a table, seen by the numbers that the code goes by: procedures P, and position R of their records.
use Rattle.std.specs.Prelude.{ℕ, zero, suc, ◌+◌, ◌*◌, ◌≤◌, ◌<◌, ◌≡◌, refl, List, [], ◌∷◌, Bool, true, false, length, get_or, min}
use Rattle.std.proofs.Common.{arith, sym, ap, subst, ◌∙◌, below_more, length-append}
use Rattle.value.specs.Maybe.{is}
use Rattle.value.specs.Values.{bytes}
use Rattle.value.specs.Lists.{at, all}
use Rattle.value.proofs.Laws.Tests.{by_test}
use Rattle.value.proofs.Laws.Maybes.{is_inj, missing}
use Rattle.value.proofs.Laws.Lists.{each_at, at_get_d}
use Rattle.format.specs.Syntax.{end, Proc, Program, Plain, Kind, sequential}
use Rattle.format.specs.Encode.{each, block, bodies_of, record_size}
use Rattle.scan.specs.Tokens.{four_at, tokens}
use Rattle.format.proofs.Laws.Fits.{BlockFits}
use Rattle.format.proofs.Laws.Formed.{Formed}
use Rattle.format.specs.Rules.{limits, all_named}
use Rattle.format.proofs.Laws.Names.{Names, all_names?}
use Rattle.format.proofs.Laws.Passes.{at_most}
use Rattle.format.proofs.Laws.Sound.{LocalsRight}
use Rattle.format.proofs.Laws.Grammar.{BlockAt}
use Rattle.format.proofs.Laws.Stands.{Stands, first, others, four_bytes}
use Rattle.format.proofs.Laws.Procs.{body_at_lem}
use Rattle.format.proofs.Laws.TablePlaces.{body_at, records_at, body_stands, record_stands}
use Rattle.format.specs.Decode.{max_nesting}
use Rattle.scan.specs.Laws.Tokens.{Row, row, shift}

-- t is p's table, with P procedures, whose records begin at R
pub record Laid (t : List ℕ) (P R : ℕ) (p : Program Plain) : Type 0 where
  pub kind : Kind
  pub formed : Formed kind t p
  pub procs : P ≡ length p.procs
  pub records : R ≡ records_at p

-- and each name means something
pub record Named (t : List ℕ) (P R : ℕ) (p : Program Plain) : Type 0 where
  pub laid : Laid t P R p
  pub named : all_named p ≡ true

-- the records are in the table
pub record Room (t : List ℕ) (P R : ℕ) : Type 0 where
  pub few : P ≤ (limits sequential).procs
  pub room : R + record_size * P ≤ length t
  pub size : length t ≤ (limits sequential).bytes

-- procedure m
abbrev pub proc_of : Program Plain → ℕ → Proc Plain
proc_of p m = get_or p.procs m (record { params = 0; locals = 0; body = end })

-- the test f, of each program that a table may be
pub record Judges (G : Program Plain → Type 0) (f : Program Plain → Bool) (r : Bool) : Type 0 where
  pub gives : (p : Program Plain) → G p → r ≡ f p

-- ---- where bodies begin and end

-- behind a body the next one begins
next_body : (ps : List (Proc Plain)) (m : ℕ) {q : Proc Plain} → at ps m ≡ is q → body_at ps m + length (block q.body) ≡ body_at ps (suc m)
next_body [] m e = missing e
next_body (p ∷ []) zero {q} e = let same : p ≡ q = is_inj e in rw same (omega arith)
next_body (p ∷ o ∷ ps) zero {q} e = let same : p ≡ q = is_inj e in rw same (omega arith)
next_body (p ∷ ps) (suc m) e = omega (arith, next_body ps m e)

-- behind the last one the records begin
last_body : (ps : List (Proc Plain)) → body_at ps (length ps) ≡ length (each block (bodies_of ps))
last_body [] = refl
last_body (p ∷ ps) = rw (length-append, last_body ps)

-- no body begins behind it
body_before : (ps : List (Proc Plain)) (m : ℕ) → body_at ps m ≤ length (each block (bodies_of ps))
body_before [] m = omega arith
body_before (p ∷ ps) zero = omega arith
body_before (p ∷ ps) (suc m) = omega (arith, length-append (block p.body) (each block (bodies_of ps)), body_before ps m)

module _ {t : List ℕ} {P R : ℕ} {p : Program Plain} (laid : Laid t P R p) {m : ℕ} (below : m < P) where
  -- there is a procedure m
  pub proc_at_lem : at p.procs m ≡ is (proc_of p m)
  proc_at_lem = at_get_d p.procs m _ (omega (arith, laid.procs))

  -- its record
  head_stands : Stands t (R + record_size * m) ((proc_of p m).params ∷ (proc_of p m).locals ∷ bytes 4 (body_at p.procs m))
      (R + record_size * m + record_size)
  head_stands = rw laid.records (record_stands laid.kind p laid.formed.same m proc_at_lem)

  -- its parameters
  pub params_at : get_or t (R + record_size * m) 0 ≡ (proc_of p m).params
  params_at = first head_stands

  -- its locals
  pub locals_at_lem : get_or t (R + record_size * m + 1) 0 ≡ (proc_of p m).locals
  locals_at_lem = first (others head_stands)

  -- where its body begins
  pub start_at : four_at t (R + record_size * m + 2) ≡ body_at p.procs m
  start_at = four_bytes (body_at p.procs m) (shift (others (others head_stands)) (omega arith)) (omega (arith, here))
    where
      here : body_at p.procs m ≤ (limits sequential).bytes
      here = omega (arith, (body_stands laid.kind p laid.formed.same m proc_at_lem).fits, laid.formed.size, (at_most laid.kind).bytes)

  -- its body, up to where the next one begins
  pub body_here : BlockAt t (body_at p.procs m) max_nesting (proc_of p m).body (body_at p.procs (m + 1))
  body_here = record {
    stands = subst (λ j. Stands t (body_at p.procs m) (block (proc_of p m).body) j)
        (next_body p.procs m proc_at_lem ∙ ap (body_at p.procs) (omega arith))
        (body_stands laid.kind p laid.formed.same m proc_at_lem);
    fits = each_at (BlockFits max_nesting) (bodies_of p.procs) m laid.formed.fits (body_at_lem p.procs m proc_at_lem);
  }

  -- as tokens
  pub body_row : Row t (body_at p.procs m) (tokens (proc_of p m).body) (body_at p.procs (m + 1))
  body_row = row (proc_of p m).body body_here.fits.1 body_here.stands

-- what rules 3 and 5 say of procedure m
pub record ProcNamed (p : Program Plain) (m : ℕ) : Type 0 where
  pub params : (proc_of p m).params ≤ (proc_of p m).locals
  pub locals : (proc_of p m).locals ≤ (limits sequential).locals
  pub names : Names p (proc_of p m).locals (proc_of p m).body

-- they say it
pub proc_named_lem : {t : List ℕ} {P R : ℕ} {p : Program Plain} → Named t P R p → {m : ℕ} → m < P → ProcNamed p m
proc_named_lem {p = p} named {m} below = record {
  params = right.params;
  locals = omega (arith, right.locals, (at_most named.laid.kind).locals);
  names = each_at (λ q. Names p q.locals q.body) p.procs m ((all_names? p).so named.named) (proc_at_lem named.laid below);
}
  where
    right : LocalsRight (limits named.laid.kind).locals (proc_of p m)
    right = each_at (LocalsRight (limits named.laid.kind).locals) p.procs m named.laid.formed.locals (proc_at_lem named.laid below)

-- ---- where a body begins and ends, as the code finds it

-- r is where procedure m's body begins
pub record BodyStarts (t : List ℕ) (P R m r : ℕ) : Type 0 where
  pub within : r ≤ R
  pub gives : (p : Program Plain) → Laid t P R p → r ≡ body_at p.procs m

-- r is where the body behind procedure m's begins, or the records
pub record BodyEnds (t : List ℕ) (P R m r : ℕ) : Type 0 where
  pub within : r ≤ R
  pub gives : (p : Program Plain) → Laid t P R p → r ≡ body_at p.procs (m + 1)

module _ (t : List ℕ) (P R m : ℕ) where
  -- as its record says
  pub starts_here : {r x : ℕ} → m < P → r ≡ four_at t (R + record_size * m + 2) → x ≡ min r R → BodyStarts t P R m x
  starts_here {r} {x} l e f = record { within = omega arith; gives = gives }
    where
      gives : (p : Program Plain) → Laid t P R p → x ≡ body_at p.procs m
      gives p laid =
          let begins : r ≡ body_at p.procs m = e ∙ start_at laid l in
          omega (arith, begins, laid.records, body_before p.procs m)

  -- before another
  pub ends_next : {r : ℕ} → BodyStarts t P R (m + 1) r → BodyEnds t P R m r
  ends_next s = record { within = s.within; gives = s.gives }

  -- at the records, where the next one begins there too
  pub ends_there : {r : ℕ} → m + 1 < P → r ≡ four_at t (R + record_size * (m + 1) + 2) → R ≤ r → BodyEnds t P R m R
  ends_there {r} l e w = record { within = omega arith; gives = gives }
    where
      gives : (p : Program Plain) → Laid t P R p → R ≡ body_at p.procs (m + 1)
      gives p laid =
          let begins : r ≡ body_at p.procs (m + 1) = e ∙ start_at laid l in
          omega (arith, begins, laid.records, body_before p.procs (m + 1))

  -- the last one
  pub ends_last : m < P → P ≤ m + 1 → BodyEnds t P R m R
  ends_last l w = record { within = omega arith; gives = gives }
    where
      gives : (p : Program Plain) → Laid t P R p → R ≡ body_at p.procs (m + 1)
      gives p laid =
          let all : m + 1 ≡ length p.procs = omega (arith, laid.procs) in
          rw (all, last_body p.procs) laid.records

-- one law for each way
pub ruleset end_ways = (starts_here, ends_next, ends_last)

-- ---- a loop over the procedures

-- those before m pass
pub record Passed (G : Program Plain → Type 0) (f : ℕ → Program Plain → Bool) (m : ℕ) : Type 0 where
  pub before : (p : Program Plain) → G p → (i : ℕ) → i < m → f i p ≡ true

-- none before the first
pub none_passed : (G : Program Plain → Type 0) (f : ℕ → Program Plain → Bool) → Passed G f 0
none_passed G f = record { before = λ p g i l. absurd (omega arith) }

-- and one more
pub one_passed : {G : Program Plain → Type 0} {f : ℕ → Program Plain → Bool} {m : ℕ} {r : Bool}
    → Passed G f m → Judges G (f m) r → r ≡ true → Passed G f (m + 1)
one_passed {G} {f} {m} s j e = record { before = λ p g. below_more (λ i. f i p ≡ true) m (s.before p g) (sym (j.gives p g) ∙ e) }

-- all pass a test if each does
each_passes : {A : Type 0} (f : A → Bool) (xs : List A) (d : A) → ((i : ℕ) → i < length xs → f (get_or xs i d) ≡ true) → all f xs ≡ true
each_passes f [] d h = refl
each_passes f (x ∷ xs) d h = rw (h 0 (omega arith)) (each_passes f xs d (λ i l. h (suc i) (omega arith)))

-- and not if one fails
one_fails : {A : Type 0} (f : A → Bool) (xs : List A) (d : A) (i : ℕ) → i < length xs → f (get_or xs i d) ≡ false → all f xs ≡ false
one_fails f [] d i l e = absurd (omega arith)
one_fails f (x ∷ xs) d zero l e = rw e
one_fails f (x ∷ xs) d (suc i) l e = by_test (f x) (λ y. rw y (one_fails f xs d i (omega arith) e)) (λ n. rw n)

-- a test of each procedure, and the test of all
module _ {G : Program Plain → Type 0} (test : Program Plain → Proc Plain → Bool) {P : ℕ}
    (count : (p : Program Plain) → G p → P ≡ length p.procs) where
  -- all pass
  pub passed_all : {m : ℕ} → Passed G (λ m p. test p (proc_of p m)) m → P ≤ m → Judges G (λ p. all (test p) p.procs) true
  passed_all s l = record { gives = λ p g. sym (each_passes (test p) p.procs _ (λ i b. s.before p g i (omega (arith, count p g)))) }

  -- one fails
  pub failed_one : {m : ℕ} {r : Bool} → Judges G (λ p. test p (proc_of p m)) r → m < P → r ≡ false → Judges G (λ p. all (test p) p.procs) false
  failed_one {m} j l e = record { gives = λ p g. sym (one_fails (test p) p.procs _ m (omega (arith, count p g)) (sym (j.gives p g) ∙ e)) }
