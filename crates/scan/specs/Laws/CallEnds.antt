-- Rule 7: procedures from which each row of calls comes to an end, as the search finds them out.
use Rattle.std.specs.Prelude.{ℕ, zero, suc, ◌+◌, ◌<◌, ◌≡◌, refl, List, [], ◌∷◌, ◌++◌, length, get_or}
use Rattle.std.proofs.Common.{arith, sym, ap, subst, ◌∙◌, append_assoc}
use Rattle.value.proofs.Laws.Lists.{In, here, there, in_front, in_back, in_either, each_in, Each, each_append, at_below}
use Rattle.scan.specs.declared.calls.State.{State}
use Rattle.scan.specs.declared.calls.State.TheVariants as V
use Rattle.scan.specs.declared.tokens.Token.{Token}
use Rattle.scan.specs.declared.tokens.Token.TheVariants as T
use Rattle.format.specs.Syntax.{Instr, assign, write, read, while, if, call, atomic, select}
use Rattle.format.specs.Syntax.{Block, end, step, Proc, Program, Plain}
use Rattle.format.specs.Rules.{callees, callees_i, callees_of}
use Rattle.format.proofs.Laws.Procs.{takes_at}
use Rattle.format.proofs.Laws.Names.{Names, NamesI}
use Rattle.format.proofs.Laws.TablePlaces.{body_at}
use Rattle.format.proofs.Laws.Calls.{Calls, Reaches, direct, onward, calls_below}
use Rattle.scan.specs.Tokens.{token_at, size_at}
use Rattle.scan.specs.Laws.Tokens.{Row}
use Rattle.scan.specs.Laws.Scans.{next_token, no_token}
use Rattle.scan.specs.Laws.Laid.{Named, proc_named_lem, proc_of}
use Rattle.scan.specs.Laws.CallScans.{calls_in, calls_append, Left, NextCall}

-- ---- procedures from which calls come to an end

module _ {A : Type 0} (ps : List (Proc A)) where
  -- each row of calls from m on ends
  pub data Ends : ℕ → Type 0 where
    ends : {m : ℕ} → ((c : ℕ) → Calls ps m c → Ends c) → Ends m

  -- one way after another
  joined : {m c n : ℕ} → Reaches ps m c → Reaches ps c n → Reaches ps m n
  joined (direct h) r = onward h r
  joined (onward h s) r = onward h (joined s r)

  -- such a procedure does not reach itself
  pub ends_apart : (m : ℕ) → Ends m → Reaches ps m m → ⊥
  ends_apart m (ends f) (direct h) = ends_apart m (f m h) (direct h)
  ends_apart m (ends f) (onward {c = c} h r) = ends_apart c (f c h) (joined r (direct h))

-- ---- each call is of a procedure that is there

mutual
  -- of an instruction
  calls_there_i : (p : Program Plain) (X : ℕ) (i : Instr Plain) → NamesI p X i → Each (λ c. c < length p.procs) (callees_i i)
  calls_there_i p X (assign x e) h = tt
  calls_there_i p X (write y o e) h = tt
  calls_there_i p X (read x y o) h = tt
  calls_there_i p X (while e b) h = calls_there p X b h.1
  calls_there_i p X (if e b c) h = each_append _ (callees b) (callees c) (calls_there p X b h.1.0) (calls_there p X c h.1.1)
  calls_there_i p X (call m es) h = let q = takes_at p.procs m (length es) h.0 in (at_below p.procs m q.1, tt)
  calls_there_i p X (atomic b) h = calls_there p X b h
  calls_there_i p X (select a b) h = tt

  -- of a block
  calls_there : (p : Program Plain) (X : ℕ) (b : Block Plain) → Names p X b → Each (λ c. c < length p.procs) (callees b)
  calls_there p X end h = tt
  calls_there p X (step a i b) h = each_append _ (callees_i i) (callees b) (calls_there_i p X i h.0) (calls_there p X b h.1)

-- those of procedure m
callees_at : (ps : List (Proc Plain)) (m : ℕ) (d : Proc Plain) → m < length ps → callees_of ps m ≡ callees (get_or ps m d).body
callees_at [] m d l = absurd (omega arith)
callees_at (p ∷ ps) zero d l = refl
callees_at (p ∷ ps) (suc m) d l = callees_at ps m d (omega arith)

module _ {t : List ℕ} {P R : ℕ} {p : Program Plain} (named : Named t P R p) where
  -- as the code finds them
  pub callees_of_lem : {m : ℕ} → m < P → callees_of p.procs m ≡ callees (proc_of p m).body
  callees_of_lem {m} l = callees_at p.procs m _ (omega (arith, named.laid.procs))

  -- they are there
  pub calls_there_lem : (m c : ℕ) → Calls p.procs m c → c < P
  calls_there_lem m c h =
      let l : m < P = omega (arith, named.laid.procs, calls_below p.procs m c h) in
      let all : Each (λ c. c < length p.procs) (callees_of p.procs m)
      = subst (Each (λ c. c < length p.procs)) (sym (callees_of_lem l)) (calls_there p (proc_of p m).locals (proc_of p m).body (proc_named_lem named l).names) in
      omega (arith, named.laid.procs, each_in _ (callees_of p.procs m) all h)

  -- what reaches another is a procedure
  pub reaches_below : {m n : ℕ} → Reaches p.procs m n → m < P
  reaches_below {m} (direct {n = n} h) = omega (arith, named.laid.procs, calls_below p.procs m n h)
  reaches_below {m} (onward {c = c} h r) = omega (arith, named.laid.procs, calls_below p.procs m c h)

-- ---- a part of a procedure

-- procedure m is looked at up to position k: the calls before it end
pub record Part (t : List ℕ) (p : Program Plain) (m k : ℕ) : Type 0 where
  pub before : List ℕ
  pub after : List Token
  pub whole : callees_of p.procs m ≡ before ++ calls_in after
  pub ended : Each (Ends p.procs) before
  pub row : Row t k after (body_at p.procs (m + 1))

-- what each of them has
in_each : {A : Type 0} (Q : A → Type 0) (xs : List A) → ((x : A) → In x xs → Q x) → Each Q xs
in_each Q [] h = tt
in_each Q (x ∷ xs) h = (h x here, in_each Q xs (λ y i. h y (there i)))

-- the next call brings a part further
pub further : {t : List ℕ} {P R : ℕ} (p : Program Plain) → Named t P R p → {states : List State} {m k e at : ℕ}
    → ((c : ℕ) → c < P → get_or states c V.New ≡ V.Left → Ends p.procs c) → m < P → e ≡ body_at p.procs (m + 1) → Part t p m k
    → NextCall t e states k at → Part t p m at
further {t} {P} p named {states} {m} {k} {e} {at} ended below ends_at old N = joining (N.passed old.after (rw ends_at old.row))
  where
    joining : (xs : List Token) × (ys : List Token) × (old.after ≡ xs ++ ys) × Each (Left states) (calls_in xs) × Row t at ys e → Part t p m at
    joining (xs, ys, split, lefts, row) = record {
      before = old.before ++ calls_in xs;
      after = ys;
      whole = all;
      ended = each_append _ old.before (calls_in xs) old.ended (in_each _ (calls_in xs) left);
      row = rw (← ends_at) row;
    }
      where
        all : callees_of p.procs m ≡ (old.before ++ calls_in xs) ++ calls_in ys
        all = old.whole ∙ ap (old.before ++◌) (ap calls_in split ∙ calls_append xs ys refl refl)
            ∙ sym (append_assoc old.before (calls_in xs) (calls_in ys))

        left : (c : ℕ) → In c (calls_in xs) → Ends p.procs c
        left c i =
            let called : Calls p.procs m c = rw all (in_front (old.before ++ calls_in xs) (calls_in ys) (in_back old.before (calls_in xs) i)) in
            ended c (calls_there_lem named m c called) (each_in _ (calls_in xs) lefts i).mark

-- with no call left, it ends
pub all_ended : {t : List ℕ} (p : Program Plain) (m : ℕ) → Part t p m (body_at p.procs (m + 1)) → Ends p.procs m
all_ended p m part = ends {m = m} (λ c h. in_either part.before (calls_in part.after) (rw part.whole at h)
    (λ i. each_in _ part.before part.ended i)
    (λ i. absurd (none (no_token (omega arith) part.row) i)))
  where
    none : {c : ℕ} {ks : List Token} → ks ≡ [] → In c (calls_in ks) → ⊥
    none e i = empty (rw e at i)
      where
        empty : {c : ℕ} → In c [] → ⊥
        empty {c} j = each_in (λ x. ⊥) [] tt j

-- the token where a part goes on is a call of the procedure
pub called : {t : List ℕ} (p : Program Plain) {m k : ℕ} → Part t p m k → k < body_at p.procs (m + 1) → {c n : ℕ} → token_at t k ≡ T.Call c n
    → Calls p.procs m c
called {t} p {m} {k} part l {c} {n} is_call = found (next_token l part.row)
  where
    found : (ls : List Token) × (part.after ≡ token_at t k ∷ ls) × Row t (k + size_at t k) ls (body_at p.procs (m + 1)) → Calls p.procs m c
    found (ls, next, row) = rw part.whole (in_back part.before (calls_in part.after) (rw (next, is_call) here))

-- along the way each procedure reaches what the last one calls
pub climbs : (way : List ℕ) {d c : ℕ} (p : Program Plain) → ((j : ℕ) → j + 1 < d → Calls p.procs (get_or way j 0) (get_or way (j + 1) 0))
    → (j n : ℕ) → j + n < d → Calls p.procs (get_or way (j + n) 0) c → Reaches p.procs (get_or way j 0) c
climbs way p calls j zero l h = direct (let same : j + 0 ≡ j = omega arith in rw same at h)
climbs way p calls j (suc n) l h =
    let same : j + suc n ≡ j + 1 + n = omega arith in
    onward (calls j (omega arith)) (climbs way p calls (j + 1) n (omega arith) (rw same at h))
