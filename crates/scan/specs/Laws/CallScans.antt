-- Rule 7, token by token: the calls of a body, and the next one of a procedure that was not left yet.
use Rattle.std.specs.Prelude.{ℕ, ◌+◌, ◌≤◌, ◌<◌, ◌≡◌, ◌≢◌, List, [], ◌∷◌, ◌++◌, Bool, true, false, get_or, ltb}
use Rattle.std.proofs.Common.{le-ltb, lt-ltb, arith, sym, ap, subst, ◌∙◌, append_assoc}
use Rattle.std.proofs.Math.Path.{refl}
use Rattle.std.proofs.Math.Bool as B
use borrow.Author.Tests.{not-false, ltb-true, lt-ltb}
use Rattle.value.specs.Maybe.{pick}
use Rattle.value.proofs.Laws.Tests.{by_test, never}
use Rattle.value.proofs.Laws.Lists.{Each, each_append}
use Rattle.scan.specs.declared.calls.State.{State}
use Rattle.scan.specs.declared.calls.State.TheVariants as S
use Rattle.scan.specs.declared.tokens.Token.{Token}
use Rattle.scan.specs.declared.tokens.Token.TheVariants as T
use Rattle.format.specs.Syntax.{Expr, constant, local, one, two, Instr, assign, write, read, while, if, call, atomic, select, sequential}
use Rattle.format.specs.Syntax.{Block, end, step, Plain}
use Rattle.value.specs.declared.Value.TheVariants.{Whole, Location, Truth}
use Rattle.format.specs.Rules.{callees, callees_i, limits}
use Rattle.scan.specs.Tokens.{token_at, size_at, tokens_e, tokens_es, tokens_i, tokens}
use Rattle.scan.specs.Laws.Tokens.{Row, row_le, token_falls}
use Rattle.scan.specs.Laws.Scans.{next_token}

-- ---- the calls of tokens

-- of one
abbrev pub call_in : Token → List ℕ
call_in T.Stop = []
call_in T.Plain = []
call_in (T.Location l) = []
call_in (T.Local x) = []
call_in (T.Assign x) = []
call_in (T.Write y) = []
call_in (T.Read x y) = []
call_in T.While = []
call_in T.If = []
call_in (T.Call m n) = m ∷ []
call_in T.Atomic = []
call_in (T.Select a b) = []

-- of several
abbrev pub calls_in : List Token → List ℕ
calls_in [] = []
calls_in (k ∷ ks) = call_in k ++ calls_in ks

-- one list of tokens after another
pub calls_append : (ks ls : List Token) {ms ns : List ℕ} → calls_in ks ≡ ms → calls_in ls ≡ ns → calls_in (ks ++ ls) ≡ ms ++ ns
calls_append [] ls e f = rw (← e, f)
calls_append (k ∷ ks) ls e f = rw (calls_append ks ls refl f, ← e) (sym (append_assoc (call_in k) (calls_in ks) _))

-- an expression has none
expr_none : (e : Expr) → calls_in (tokens_e e) ≡ []
expr_none (constant (Whole z)) = refl
expr_none (constant (Location l)) = refl
expr_none (constant (Truth b)) = refl
expr_none (local x) = refl
expr_none (one o a) = expr_none a
expr_none (two o a b) = calls_append (tokens_e a) (tokens_e b) (expr_none a) (expr_none b)

-- several neither
exprs_none : (es : List Expr) → calls_in (tokens_es es) ≡ []
exprs_none [] = refl
exprs_none (e ∷ es) = calls_append (tokens_e e) (tokens_es es) (expr_none e) (exprs_none es)

mutual
  -- those of an instruction
  instr_calls : (i : Instr Plain) → calls_in (tokens_i i) ≡ callees_i i
  instr_calls (assign x e) = expr_none e
  instr_calls (write y o e) = calls_append (tokens_e o) (tokens_e e) (expr_none o) (expr_none e)
  instr_calls (read x y o) = expr_none o
  instr_calls (while e b) = calls_append (tokens_e e) (tokens b) (expr_none e) (block_calls b)
  instr_calls (if e b c) = calls_append (tokens_e e) (tokens b ++ tokens c) (expr_none e) (calls_append (tokens b) (tokens c) (block_calls b) (block_calls c))
  instr_calls (call m es) = ap (m ∷◌) (exprs_none es)
  instr_calls (atomic b) = block_calls b
  instr_calls (select a b) = refl

  -- of a block
  pub block_calls : (b : Block Plain) → calls_in (tokens b) ≡ callees b
  block_calls end = refl
  block_calls (step a i b) = calls_append (tokens_i i) (tokens b) (instr_calls i) (block_calls b)

-- ---- what the code answers

-- was a procedure left
abbrev pub is_left : State → Bool
is_left S.New = false
is_left S.Entered = false
is_left S.Left = true

-- if so, it is in that state
left_is : (s : State) → is_left s ≡ true → s ≡ S.Left
left_is S.New e = absurd (never e)
left_is S.Entered e = absurd (never e)
left_is S.Left e = refl

module _ (states : List State) where
  -- was a procedure left
  pub record Left (c : ℕ) : Type 0 where
    pub low : c < (limits sequential).procs
    pub mark : get_or states c S.New ≡ S.Left

  -- does a token call one that was not left
  unfoldable pub calls_on : Token → Bool
  calls_on T.Stop = false
  calls_on T.Plain = false
  calls_on (T.Location l) = false
  calls_on (T.Local x) = false
  calls_on (T.Assign x) = false
  calls_on (T.Write y) = false
  calls_on (T.Read x y) = false
  calls_on T.While = false
  calls_on T.If = false
  calls_on (T.Call m n) = pick (ltb m (limits sequential).procs) (B.not (is_left (get_or states m S.New))) true
  calls_on T.Atomic = false
  calls_on (T.Select a b) = false

-- r is the first place from i up to e where a token does, or e
pub record NextCall (t : List ℕ) (e : ℕ) (states : List State) (i r : ℕ) : Type 0 where
  pub within : r ≤ e
  pub here : r < e → calls_on states (token_at t r) ≡ true
  pub passed : (ks : List Token) → Row t i ks e
      → (xs : List Token) × (ys : List Token) × (ks ≡ xs ++ ys) × Each (Left states) (calls_in xs) × Row t r ys e

-- ---- one token

module _ (states : List State) where
  -- a call of a procedure
  pub on_call : {k : Token} {m n : ℕ} → k ≡ T.Call m n → m < (limits sequential).procs
      → B.not (is_left (get_or states m S.New)) ≡ calls_on states k
  unfolding calls_on
  on_call {m = m} e l = rw (e, lt-ltb m (limits sequential).procs l)

  -- of none that there can be
  pub on_far : {k : Token} {m n : ℕ} → k ≡ T.Call m n → (limits sequential).procs ≤ m → true ≡ calls_on states k
  unfolding calls_on
  on_far {m = m} e l = rw (e, le-ltb m (limits sequential).procs l)

  -- a procedure that was left, by the test
  left : (m : ℕ) → pick (ltb m (limits sequential).procs) (B.not (is_left (get_or states m S.New))) true ≡ false → Left states m
  left m e =
      by_test (ltb m (limits sequential).procs)
      (λ l. record { low = ltb-true _ _ l; mark = left_is (get_or states m S.New) (not-false _ (rw l at e)) })
      (λ l. absurd (never (sym (rw l at e))))

  -- a token that does not call on calls what was left
  pub on_left : (k : Token) → calls_on states k ≡ false → Each (Left states) (call_in k)
  unfolding calls_on
  on_left T.Stop e = tt
  on_left T.Plain e = tt
  on_left (T.Location l) e = tt
  on_left (T.Local x) e = tt
  on_left (T.Assign x) e = tt
  on_left (T.Write y) e = tt
  on_left (T.Read x y) e = tt
  on_left T.While e = tt
  on_left T.If e = tt
  on_left (T.Call m n) e = (left m e, tt)
  on_left T.Atomic e = tt
  on_left (T.Select a b) e = tt

  -- a token that calls on is a call
  pub on_is_call : (k : Token) → calls_on states k ≡ true → ((c n : ℕ) → k ≢ T.Call c n) → ⊥
  unfolding calls_on
  on_is_call T.Stop e other = never e
  on_is_call T.Plain e other = never e
  on_is_call (T.Location l) e other = never e
  on_is_call (T.Local x) e other = never e
  on_is_call (T.Assign x) e other = never e
  on_is_call (T.Write y) e other = never e
  on_is_call (T.Read x y) e other = never e
  on_is_call T.While e other = never e
  on_is_call T.If e other = never e
  on_is_call (T.Call m n) e other = other m n refl
  on_is_call T.Atomic e other = never e
  on_is_call (T.Select a b) e other = never e

  -- of a procedure that was not left
  pub on_not_left : (c n : ℕ) → calls_on states (T.Call c n) ≡ true → c < (limits sequential).procs → get_or states c S.New ≢ S.Left
  unfolding calls_on
  on_not_left c n e l q = never (rw (lt-ltb c (limits sequential).procs l, q) at e)

-- ---- the loop over tokens

-- those from i up to k call none that was not left
pub record Passing (t : List ℕ) (e : ℕ) (states : List State) (i k : ℕ) : Type 0 where
  pub passed : (ks : List Token) → Row t i ks e
      → (xs : List Token) × (ys : List Token) × (ks ≡ xs ++ ys) × Each (Left states) (calls_in xs) × Row t k ys e

module _ (t : List ℕ) (e : ℕ) (states : List State) (i : ℕ) where
  -- no token yet
  pub pass_start : Passing t e states i i
  pass_start = record { passed = λ ks row. ([], ks, refl, tt, row) }

  -- one more
  pub pass_next : {k n : ℕ} {a : Token} {b : Bool} → Passing t e states i k → k < e → a ≡ token_at t k → b ≡ calls_on states a → b ≡ false
      → n ≡ k + size_at t k → Passing t e states i n
  pass_next {k} {n} {a} {b} f l at-k on not_on z = record { passed = passed }
    where
      passed : (ks : List Token) → Row t i ks e
          → (xs : List Token) × (ys : List Token) × (ks ≡ xs ++ ys) × Each (Left states) (calls_in xs) × Row t n ys e
      passed ks row =
          let so : (xs : List Token) × (ys : List Token) × (ks ≡ xs ++ ys) × Each (Left states) (calls_in xs) × Row t k ys e = f.passed ks row in
          let next : (ls : List Token) × (so.1 ≡ token_at t k ∷ ls) × Row t (k + size_at t k) ls e = next_token l so.4 in
          let one : List Token = token_at t k ∷ [] in (
            so.0 ++ one,
            next.0,
            so.2 ∙ ap (so.0 ++◌) next.1 ∙ sym (append_assoc so.0 one next.0),
            rw (calls_append so.0 one refl refl)
                (each_append _ (calls_in so.0) (calls_in one) so.3 (each_append _ (call_in (token_at t k)) [] (on_left states (token_at t k) (rw (← at-k, ← on) not_on)) tt)),
            rw z next.2,
          )

  -- here is one
  pub pass_stop : {k : ℕ} {a : Token} {b : Bool} → Passing t e states i k → k < e → a ≡ token_at t k → b ≡ calls_on states a → b ≡ true
      → NextCall t e states i k
  pass_stop f l at-k on is-on = record { within = omega arith; here = λ _. rw (← at-k, ← on) is-on; passed = f.passed }

  -- there is none
  pub pass_end : {k : ℕ} → Passing t e states i k → e ≤ k → NextCall t e states i e
  pass_end {k} f l = record { within = omega arith; here = λ b. absurd (omega arith); passed = passed }
    where
      passed : (ks : List Token) → Row t i ks e
          → (xs : List Token) × (ys : List Token) × (ks ≡ xs ++ ys) × Each (Left states) (calls_in xs) × Row t e ys e
      passed ks row =
          let so : (xs : List Token) × (ys : List Token) × (ks ≡ xs ++ ys) × Each (Left states) (calls_in xs) × Row t k ys e = f.passed ks row in
          let there : k ≡ e = omega (arith, row_le so.4) in
          (so.0, so.1, so.2, so.3, subst (λ (n : ℕ). Row t n so.1 e) there so.4)

-- one law for each way
pub ruleset pass_ways = (pass_start, pass_next, pass_stop, pass_end, token_falls)
