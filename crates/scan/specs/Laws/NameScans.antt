-- Rule 5 token by token, as the code judges it.
use Rattle.std.specs.Prelude.{ℕ, zero, suc, ◌+◌, ◌*◌, ◌≤◌, ◌<◌, ◌≡◌, List, [], ◌∷◌, ◌++◌, Bool, true, false, length, get_or, ltb, eqb}
use Rattle.std.proofs.Common.{arith, ap, ap₂, ◌∙◌}
use Rattle.std.proofs.Math.Path.{refl, sym}
use Rattle.std.proofs.Math.Bool as B
use borrow.Author.Tests.{lt-ltb, le-ltb, ltb-true, ltb-false, not-true, not-false}
use Rattle.value.specs.Maybe.{both}
use Rattle.value.specs.Lists.{all}
use Rattle.value.proofs.Laws.Tests.{by_test}
use Rattle.value.specs.declared.Value.TheVariants.{Whole, Location, Truth}
use Rattle.scan.specs.declared.tokens.Token.{Token}
use Rattle.scan.specs.declared.tokens.Token.TheVariants as T
use Rattle.format.specs.Syntax.{Expr, constant, local, one, two, Instr, assign, write, read, while, if, call, atomic, select}
use Rattle.format.specs.Syntax.{Block, end, step, Proc, Program, Plain}
use Rattle.format.specs.Rules.{in_expr, takes, named, named_i, all_named}
use Rattle.scan.specs.Tokens.{token_at, size_at, tokens_e, tokens_es, tokens_i, tokens}
use Rattle.scan.specs.Laws.Tokens.{Row, token_falls}
use Rattle.scan.specs.Laws.Scans.{Scans, From, from_start, from_next, from_stop, from_end}
use Rattle.format.proofs.Laws.TablePlaces.{body_at}
use Rattle.format.specs.Encode.{record_size}
use Rattle.scan.specs.Laws.Laid.{Laid, Judges, proc_of, params_at, locals_at_lem, body_row, BodyStarts, BodyEnds}
use Rattle.scan.specs.Laws.Laid.{Passed, none_passed, one_passed, passed_all, failed_one}

-- ---- what the code judges

-- is m a procedure, and has it n parameters, by its record
unfoldable pub takes_here : List ℕ → ℕ → ℕ → ℕ → ℕ → Bool
takes_here t P R m n = both (ltb m P) (eqb (get_or t (R + record_size * m) 0) n)

module _ (t : List ℕ) (P M R X : ℕ) where
  -- does each name of a token mean something
  unfoldable pub named_here : Token → Bool
  named_here T.Stop = true
  named_here T.Plain = true
  named_here (T.Location l) = ltb l M
  named_here (T.Local x) = ltb x X
  named_here (T.Assign x) = ltb x X
  named_here (T.Write y) = ltb y X
  named_here (T.Read x y) = both (ltb x X) (ltb y X)
  named_here T.While = true
  named_here T.If = true
  named_here (T.Call m n) = takes_here t P R m n
  named_here T.Atomic = true
  named_here (T.Select a b) = both (ltb a M) (ltb b M)

  -- of tokens
  unfoldable pub all_here : List Token → Bool
  all_here ks = all named_here ks

-- t is p's table, with P procedures, M locations, and the records at R
pub record Counted (t : List ℕ) (P M R : ℕ) (p : Program Plain) : Type 0 where
  pub laid : Laid t P R p
  pub places : M ≡ length p.sizes

-- rule 5, of procedure m
unfoldable pub proc_named : ℕ → Program Plain → Bool
proc_named m p = named p (proc_of p m).locals (proc_of p m).body

-- ---- one token

-- two numbers below a count
pub both_below : (a b n : ℕ) → a < n → ltb b n ≡ both (ltb a n) (ltb b n)
both_below a b n l = rw (lt-ltb a n l)

-- and not
pub not_below : (a b n : ℕ) → n ≤ a → false ≡ both (ltb a n) (ltb b n)
not_below a b n l = rw (le-ltb a n l)

-- a callee, by its record
pub takes_one : (t : List ℕ) (P R m n : ℕ) {x : ℕ} → m < P → x ≡ get_or t (R + record_size * m) 0 → eqb x n ≡ takes_here t P R m n
unfolding takes_here
takes_one t P R m n l e = rw (lt-ltb m P l, e)

-- no procedure
pub takes_none : (t : List ℕ) (P R m n : ℕ) → P ≤ m → false ≡ takes_here t P R m n
unfolding takes_here
takes_none t P R m n l = rw (le-ltb m P l)

module _ (t : List ℕ) (P M R X : ℕ) where
  -- one law for each token: 02
  pub named_location : {k : Token} {l : ℕ} → k ≡ T.Location l → ltb l M ≡ named_here t P M R X k
  unfolding named_here
  named_location e = rw e

  -- 05
  pub named_local : {k : Token} {x : ℕ} → k ≡ T.Local x → ltb x X ≡ named_here t P M R X k
  unfolding named_here
  named_local e = rw e

  -- 20
  pub named_assign : {k : Token} {x : ℕ} → k ≡ T.Assign x → ltb x X ≡ named_here t P M R X k
  unfolding named_here
  named_assign e = rw e

  -- 21
  pub named_write : {k : Token} {y : ℕ} → k ≡ T.Write y → ltb y X ≡ named_here t P M R X k
  unfolding named_here
  named_write e = rw e

  -- 22
  pub named_read : {k : Token} {x y : ℕ} {b : Bool} → k ≡ T.Read x y → b ≡ both (ltb x X) (ltb y X) → b ≡ named_here t P M R X k
  unfolding named_here
  named_read e h = rw e h

  -- 25
  pub named_call : {k : Token} {m n : ℕ} {b : Bool} → k ≡ T.Call m n → b ≡ takes_here t P R m n → b ≡ named_here t P M R X k
  unfolding named_here
  named_call e h = rw e h

  -- 27
  pub named_select : {k : Token} {x y : ℕ} {b : Bool} → k ≡ T.Select x y → b ≡ both (ltb x M) (ltb y M) → b ≡ named_here t P M R X k
  unfolding named_here
  named_select e h = rw e h

  -- the others name nothing: 00
  pub named_stop : {k : Token} → k ≡ T.Stop → true ≡ named_here t P M R X k
  unfolding named_here
  named_stop e = rw e

  -- constants and operators
  pub named_plain : {k : Token} → k ≡ T.Plain → true ≡ named_here t P M R X k
  unfolding named_here
  named_plain e = rw e

  -- 23
  pub named_while : {k : Token} → k ≡ T.While → true ≡ named_here t P M R X k
  unfolding named_here
  named_while e = rw e

  -- 24
  pub named_if : {k : Token} → k ≡ T.If → true ≡ named_here t P M R X k
  unfolding named_here
  named_if e = rw e

  -- 26
  pub named_atomic : {k : Token} → k ≡ T.Atomic → true ≡ named_here t P M R X k
  unfolding named_here
  named_atomic e = rw e

-- ---- the loop over tokens

module _ (t : List ℕ) (P M R X i e : ℕ) where
  -- all from i up to e are to be judged
  abbrev pub To : ℕ → Type 0
  To k = From t e (all_here t P M R X) i (all_here t P M R X) k

  -- the first
  pub scan_start : To i
  scan_start = from_start

  -- the token at k is named
  pub scan_on : {k n : ℕ} {a : Token} {b : Bool} → To k → k < e → a ≡ token_at t k → b ≡ named_here t P M R X a → B.not b ≡ false
      → n ≡ k + size_at t k → To n
  unfolding all_here
  scan_on {b = b} f l e g h z =
      rw z (from_next (all_here t P M R X) f l (λ ks. rw (← e, ← g, not-false b h)))

  -- it is not
  pub scan_bad : {k : ℕ} {a : Token} {b : Bool} → To k → k < e → a ≡ token_at t k → b ≡ named_here t P M R X a → B.not b ≡ true
      → Scans t e (all_here t P M R X) i false
  unfolding all_here
  scan_bad {b = b} f l e g h = from_stop f l (λ ks. rw (← e, ← g, not-true b h))

  -- no token is left
  pub scan_done : {k : ℕ} → To k → e ≤ k → Scans t e (all_here t P M R X) i true
  unfolding all_here
  scan_done f l = from_end f l refl

-- ---- all tokens of a body together

-- both, in another grouping
pub both_both : (a b c : Bool) → both (both a b) c ≡ both a (both b c)
both_both true b c = refl
both_both false b c = refl

-- nothing more
pub both_true : (a : Bool) → both a true ≡ a
both_true true = refl
both_true false = refl

-- one list after another
all_append : {A : Type 0} (f : A → Bool) (xs ys : List A) → all f (xs ++ ys) ≡ both (all f xs) (all f ys)
all_append f [] ys = refl
all_append f (x ∷ xs) ys = rw (all_append f xs ys) (sym (both_both (f x) (all f xs) (all f ys)))

-- there is a procedure m
takes_below : (qs : List (Proc Plain)) (m n : ℕ) (d : Proc Plain) → m < length qs → takes qs m n ≡ eqb (get_or qs m d).params n
takes_below [] m n d l = absurd (omega arith)
takes_below (q ∷ qs) zero n d l = refl
takes_below (q ∷ qs) (suc m) n d l = takes_below qs m n d (omega arith)

-- there is none
takes_past : (qs : List (Proc Plain)) (m n : ℕ) → length qs ≤ m → takes qs m n ≡ false
takes_past [] m n l = refl
takes_past (q ∷ qs) zero n l = absurd (omega arith)
takes_past (q ∷ qs) (suc m) n l = takes_past qs m n (omega arith)

module _ {t : List ℕ} {P M R : ℕ} {p : Program Plain} (counted : Counted t P M R p) (X : ℕ) where
  -- the table is laid out
  abbrev laid : Laid t P R p
  laid = counted.laid

  -- a callee
  takes_same : (m n : ℕ) → takes_here t P R m n ≡ takes p.procs m n
  unfolding takes_here
  takes_same m n =
      by_test (ltb m P)
      (λ e. rw (e, params_at laid (ltb-true m P e)) (sym (takes_below p.procs m n _ (omega (arith, ltb-true m P e, laid.procs)))))
      (λ e. rw e (sym (takes_past p.procs m n (omega (arith, ltb-false m P e, laid.procs)))))

  -- tokens, as the code judges them
  abbrev here : List Token → Bool
  here ks = all (named_here t P M R X) ks

  -- one list of tokens after another
  here_append : (ks ls : List Token) {a b : Bool} → here ks ≡ a → here ls ≡ b → here (ks ++ ls) ≡ both a b
  here_append ks ls e f = all_append (named_here t P M R X) ks ls ∙ ap₂ both e f

  -- an expression
  expr_same : (e : Expr) → here (tokens_e e) ≡ in_expr X (length p.sizes) e
  unfolding named_here
  expr_same (constant (Whole z)) = refl
  expr_same (constant (Location l)) = rw counted.places (both_true _)
  expr_same (constant (Truth b)) = refl
  expr_same (local x) = both_true _
  expr_same (one o a) = expr_same a
  expr_same (two o a b) = here_append (tokens_e a) (tokens_e b) (expr_same a) (expr_same b)

  -- several
  exprs_same : (es : List Expr) → here (tokens_es es) ≡ all (in_expr X (length p.sizes)) es
  exprs_same [] = refl
  exprs_same (e ∷ es) = here_append (tokens_e e) (tokens_es es) (expr_same e) (exprs_same es)

  mutual
    unfolding named_here

    -- an instruction
    instr_same : (i : Instr Plain) → here (tokens_i i) ≡ named_i p X i
    instr_same (assign x e) = ap (both (ltb x X)) (expr_same e)
    instr_same (write y o e) = ap (both (ltb y X)) (here_append (tokens_e o) (tokens_e e) (expr_same o) (expr_same e))
    instr_same (read x y o) = both_both (ltb x X) (ltb y X) (here (tokens_e o)) ∙ ap (λ b. both (ltb x X) (both (ltb y X) b)) (expr_same o)
    instr_same (while e b) = here_append (tokens_e e) (tokens b) (expr_same e) (block_same_here b)
    instr_same (if e b c) = here_append (tokens_e e) (tokens b ++ tokens c) (expr_same e) (here_append (tokens b) (tokens c) (block_same_here b) (block_same_here c))
    instr_same (call m es) = ap₂ both (takes_same m (length es)) (exprs_same es)
    instr_same (atomic b) = block_same_here b
    instr_same (select a b) = rw counted.places (both_true _)

    -- a block
    pub block_same_here : (b : Block Plain) → here (tokens b) ≡ named p X b
    block_same_here end = refl
    block_same_here (step a i b) = here_append (tokens_i i) (tokens b) (instr_same i) (block_same_here b)

module _ (t : List ℕ) (P M R m : ℕ) where
  -- the body of procedure m
  pub body_judged : {x a e : ℕ} {r : Bool} → m < P → x ≡ get_or t (R + record_size * m + 1) 0 → BodyStarts t P R m a
      → BodyEnds t P R m e → Scans t e (all_here t P M R x) a r → Judges (Counted t P M R) (proc_named m) r
  unfolding all_here proc_named
  body_judged {x} {a} {e} {r} l locals start ends s = record { gives = gives }
    where
      gives : (p : Program Plain) → Counted t P M R p → r ≡ proc_named m p
      gives p counted =
          let laid : Laid t P R p = counted.laid in
          let begins : body_at p.procs m ≡ a = sym (start.gives p laid) in
          let whole : Row t a (tokens (proc_of p m).body) e = rw (← begins, ends.gives p laid) (body_row laid l) in
          let X : x ≡ (proc_of p m).locals = locals ∙ locals_at_lem laid l in
          s.gives _ whole ∙ rw X (block_same_here counted (proc_of p m).locals (proc_of p m).body)

-- ---- the loop over procedures

module _ (t : List ℕ) (P M R : ℕ) where
  -- the procedures before m
  abbrev pub Before : ℕ → Type 0
  Before m = Passed (Counted t P M R) proc_named m

  -- none yet
  pub procs_start : Before 0
  procs_start = none_passed (Counted t P M R) proc_named

  -- one more
  pub procs_next : {m : ℕ} {r : Bool} → Before m → Judges (Counted t P M R) (proc_named m) r → B.not r ≡ false → Before (m + 1)
  procs_next {r = r} s j e = one_passed s j (not-false r e)

  -- rule 5, of a procedure
  abbrev test : Program Plain → Proc Plain → Bool
  test p q = named p q.locals q.body

  -- one fails
  pub procs_bad : {m : ℕ} {r : Bool} → m < P → Judges (Counted t P M R) (proc_named m) r → B.not r ≡ true → Judges (Counted t P M R) all_named false
  unfolding proc_named
  procs_bad {r = r} l j e = failed_one test (λ p g. g.laid.procs) j l (not-true r e)

  -- all pass
  pub procs_done : {m : ℕ} → Before m → P ≤ m → Judges (Counted t P M R) all_named true
  unfolding proc_named
  procs_done s l = passed_all test (λ p g. g.laid.procs) s l

-- one law for each way through the judge of a token, and through the loop
pub ruleset ways = (
  both_below,
  not_below,
  takes_one,
  takes_none,
  named_location,
  named_local,
  named_assign,
  named_write,
  named_read,
  named_call,
  named_select,
  named_stop,
  named_plain,
  named_while,
  named_if,
  named_atomic,
  scan_start,
  scan_on,
  scan_bad,
  scan_done,
  token_falls,
  body_judged,
  procs_start,
  procs_next,
  procs_bad,
  procs_done,
)
