-- Passing the arguments of a call, one by one.
use Prim.Native.Nat.{ℕ, ◌+◌, ◌-◌, ◌≤◌, ◌<◌}
use native.Mathlib.Omega.{arith}
use mathlib.Core.Path.{◌≡◌, refl, sym, ap, subst, ◌∙◌}
use mathlib.Core.List.{List, [], ◌∷◌, ◌++◌, append_assoc, append-nil, map}
use Rattle.std.specs.Prelude.{Result, Ok, Err}
use mathlib.Core.List as L
use lib.ListN.{length, length-append, length-map}
use Rattle.value.specs.Maybe.{is}
use Rattle.value.specs.Try.{Try, has, lacks, ◌⟫◌}
use Rattle.value.specs.Values.{given}
use Rattle.value.specs.declared.Value.{Value}
use Rattle.value.specs.declared.Reason.{Reason}
use Rattle.value.proofs.Laws.Lists.{Each}
use Rattle.format.specs.Syntax.{Expr}
use Rattle.format.proofs.Laws.Grammar.{ExprsAt, MoreAt, exprs_none_lem, exprs_more}
use Rattle.format.specs.Decode.{max_depth}
use Rattle.engine.specs.declared.evaluate.Valued.{Valued}
use Rattle.semantics.specs.Memory.{evals}
use Rattle.engine.specs.Work.{Puts, Beside, frame_words, Framed}
use Rattle.engine.specs.Evaluated.{Below, Ready, Evaluates}
use Rattle.decide.specs.Decided.{Passable, PassesAll}
use Rattle.engine.specs.Laws.Work.{beside_same, beside_put, beside_then, framed_none, framed_below, framed_more}

-- after k expressions, of which vs are the values, the others stand at a
pub record On {t ls : List ℕ} {fb i n : ℕ} (h : Passable t ls fb i n) (ls' : List ℕ) (a k : ℕ) : Type 0 where
  pub vs : List Value
  pub rest : List Expr
  pub so : evals h.env h.es ≡ (evals h.env rest ⟫ λ us. has (vs ++ us))
  pub here : ExprsAt t a (n - k) rest h.j
  pub below : Each (Below (length h.env)) rest
  pub framed : Framed ls' fb h.env
  pub args : Framed ls' (fb + frame_words) (map is vs)
  pub count : length vs ≡ k

-- so it is for each frame and expressions there
pub record Passing (t ls ls' : List ℕ) (fb i n a k : ℕ) : Type 0 where
  pub within : k ≤ n
  pub beside : Beside ls ls' (fb + frame_words) (fb + frame_words + k)
  pub on : (h : Passable t ls fb i n) → On h ls' a k

-- nothing is missing in no values
more_none : (m : Try (List Value)) → m ≡ (m ⟫ λ us. has ([] ++ us))
more_none (lacks r) = refl
more_none (has us) = refl

-- a value, and then others
more_one : (vs : List Value) (v : Value) (m : Try (List Value))
    → ((m ⟫ λ us. has (v ∷ us)) ⟫ λ us. has (vs ++ us)) ≡ (m ⟫ λ us. has ((vs ++ (v ∷ [])) ++ us))
more_one vs v (lacks r) = refl
more_one vs v (has us) = ap has (sym (append_assoc vs (v ∷ []) us))

-- fewer words touched
wider : {ws ws' : List ℕ} {a k n : ℕ} → Beside ws ws' a (a + k) → k ≤ n → Beside ws ws' a (a + n)
wider s l = record { long = s.long; below = s.below; above = λ m h. s.above m (omega arith) }

module _ {t ls : List ℕ} {fb i n : ℕ} where
  -- none yet
  pub passing_start : (h : Passable t ls fb i n) → Passing t ls ls fb i n i 0
  passing_start p = record {
    within = omega arith;
    beside = beside_same;
    on = λ h. let all : n - 0 ≡ n = omega arith in record {
      vs = [];
      rest = h.es;
      so = more_none (evals h.env h.es);
      here = rw all h.args;
      below = h.below;
      framed = h.framed;
      args = framed_none (omega (arith, h.room));
      count = refl;
    };
  }

  module _ {ls' : List ℕ} {a k : ℕ} where
    -- the next one stands there
    next : (h : Passable t ls fb i n) (P : Passing t ls ls' fb i n a k) → k < n → MoreAt t a (n - k) (P.on h).rest h.j
    next h P l = exprs_more (P.on h).here (omega arith)

    -- its locals and those of the others are of the frame
    next_below : (h : Passable t ls fb i n) (P : Passing t ls ls' fb i n a k) (l : k < n)
        → Each (Below (length h.env)) ((next h P l).e ∷ (next h P l).rest)
    next_below h P l = subst (Each (Below (length h.env))) (next h P l).is (P.on h).below

    -- it is ready
    abbrev ready : Passable t ls fb i n → Passing t ls ls' fb i n a k → k < n → Ready t ls' fb a max_depth
    ready h P l =
        let w = next h P l in
        record { env = h.env; framed = (P.on h).framed; e = w.e; j = w.k; here = w.here; below = (next_below h P l).0 }

    pub passing_ready : Passable t ls fb i n → Passing t ls ls' fb i n a k → k < n → Ready t ls' fb a max_depth
    passing_ready h P l = ready h P l

    -- its word is there
    pub passing_word : Passable t ls fb i n → Passing t ls ls' fb i n a k → k < n → fb + frame_words + k < length ls'
    passing_word h P l = omega (arith, h.room, h.few, P.beside.long)

    -- as many words as before
    pub passing_long : Passing t ls ls' fb i n a k → length ls' ≡ length ls
    passing_long P = P.beside.long

    module _ {r : Valued} (P : Passing t ls ls' fb i n a k) (l : k < n) (E : Evaluates t ls' fb a max_depth r) where
      -- what is left to evaluate
      left : (h : Passable t ls fb i n) → let w = next h P l in
          evals h.env h.es ≡ (given r.answer ⟫ λ v. evals h.env w.rest ⟫ λ us. has (v ∷ us)) ⟫ λ us. has ((P.on h).vs ++ us)
      left h =
          let o = P.on h in
          let w = next h P l in
          o.so
          ∙ ap (λ es. evals h.env es ⟫ λ us. has (o.vs ++ us)) w.is
          ∙ ap (λ m. (m ⟫ λ v. evals h.env w.rest ⟫ λ us. has (v ∷ us)) ⟫ λ us. has (o.vs ++ us)) (sym (E.value (ready h P l)))

      -- it has no value
      pub passing_none : {q : Reason} {y : Result ℕ Reason} → r.answer ≡ Err q → y ≡ Err q → PassesAll t ls ls' fb i n y
      passing_none n e = rw e (record { beside = wider P.beside P.within; passed = λ h. rw (ap given n) at (left h) })

      -- it has one
      pub passing_more : {v : Value} {ls'' : List ℕ} → r.answer ≡ Ok v → Puts ls' ls'' (fb + frame_words + k) v
          → Passing t ls ls'' fb i n r.next (k + 1)
      passing_more {v} {ls''} e p = record {
        within = omega arith;
        beside =
            let end : fb + frame_words + (k + 1) ≡ fb + frame_words + k + 1 = omega arith in
            rw end (beside_then P.beside (beside_put p) (omega arith) (omega arith));
        on = λ h.
            let o = P.on h in
            let w = next h P l in
            let after : r.next ≡ w.k = E.next (ready h P l) in
            let fewer : n - (k + 1) ≡ n - k - 1 = omega arith in
            let long : length (map is o.vs) ≡ k = length-map o.vs is ∙ o.count in
            record {
              vs = o.vs ++ (v ∷ []);
              rest = w.rest;
              so = rw (ap given e) at (left h) ∙ more_one o.vs v (evals h.env w.rest);
              here = rw (after, fewer) w.after;
              below = (next_below h P l).1;
              framed = framed_below (beside_put p) (omega (arith, h.narrow)) o.framed;
              args =
                  rw (L.map-append is o.vs (v ∷ []))
                  (framed_more (map is o.vs) o.args (rw long (omega (arith, h.room, h.few, P.beside.long))) (rw long p));
              count = omega (arith, length-append o.vs (v ∷ []), o.count);
            };
      }

    -- all
    pub passing_all : Passing t ls ls' fb i n a k → n ≤ k → PassesAll t ls ls' fb i n (Ok a)
    passing_all P l = record {
      beside = wider P.beside P.within;
      passed = λ h.
          let o = P.on h in
          let none = exprs_none_lem o.here (omega arith) in
          let all : evals h.env h.es ≡ has o.vs =
          o.so ∙ ap (λ es. evals h.env es ⟫ λ us. has (o.vs ++ us)) none.0 ∙ ap has (append-nil o.vs)
          in
          (sym none.1, (o.vs, all, o.args));
    }

-- one law for each way
pub ruleset passing_ways = (passing_start, passing_ready, passing_word, passing_long, passing_none, passing_more, passing_all)
