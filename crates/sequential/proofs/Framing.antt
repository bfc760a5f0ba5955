-- The stack of frames: what a step leaves of it, and that it has no more frames than the program has procedures.
use Prim.Native.Nat.{ℕ, zero, suc, ◌*◌, ◌≤◌, ◌<◌}
use native.Mathlib.Omega.{arith}
use mathlib.Core.Path.{◌≡◌, refl, sym, ◌∙◌}
use mathlib.Core.List.{List, [], ◌∷◌, map}
use mathlib.Core.Bool.{true, false}
use lib.ListN.{length, get_or, set, length-map}
use lib.Seq.{get_or-set_other}
use lib.Dec.{eqb}
use borrow.Author.Tests.{eqb-true, eq-eqb}
use Rattle.value.specs.Maybe.{is}
use Rattle.value.specs.Lists.{at}
use Rattle.value.proofs.Laws.Maybes.{is_inj, missing}
use Rattle.value.proofs.Laws.Tests.{by_test, never, either_passed, either_failed}
use Rattle.value.proofs.Laws.Lists.{In, here, in_front, in_back, member, Each, each_at, at_below}
use Rattle.format.specs.Syntax.{Expr, Instr, call, Block, step, Proc, Plain}
use Rattle.format.specs.Rules.{callees, callees_i}
use Rattle.labels.specs.Spots.{CodeAt}
use Rattle.format.proofs.Laws.Calls.{Calls, Reaches, direct, onward, Distinct, distinct_below}
use Rattle.format.proofs.Laws.Sound.{LocalsRight}
use Rattle.labels.specs.Laws.Spots.{Inherited, spot_has}
use Rattle.semantics.specs.Step.{Frame, Stack, runs}
use Rattle.engine.specs.Work.{frame_words, Beside}
use Rattle.sequential.specs.Frames.{FrameAt, Called, Stacked, none, more}
use Rattle.engine.specs.Laws.Work.{framed_below}

-- ---- stores that leave frames

module _ (ps : List (Proc Plain)) (small : Each (LocalsRight frame_words) ps) where
  -- a frame has no more locals than words
  pub frame_small : {ls : List ℕ} {d k : ℕ} {f : Frame Plain} → FrameAt ps ls d k f → length f.env ≤ frame_words
  frame_small {f = f} F = omega (arith, F.long, (each_at (LocalsRight frame_words) ps f.proc small F.found).locals)

  -- locals above a stack were stored
  pub stacked_below : {ls ls' bs : List ℕ} {a b k : ℕ} {s : Stack Plain} → Beside ls ls' a b → frame_words * length s ≤ a → Stacked ps ls bs k s
      → Stacked ps ls' bs k s
  stacked_below B h none = none
  stacked_below B h (more {f = f} {s = s} F c w S) =
      let few = frame_small F in
      more {f = f} {s = s}
      (record { proc = F.proc; found = F.found; long = F.long; framed = framed_below B (omega arith) F.framed; code = F.code })
      c
      w
      (stacked_below B (omega arith) S)

-- a word above a stack was stored
pub stacked_back : {ps : List (Proc Plain)} {ls bs : List ℕ} {i k : ℕ} (v : ℕ) {s : Stack Plain} → length s ≤ i → Stacked ps ls bs k s
    → Stacked ps ls (set bs i v) k s
stacked_back v h none = none
stacked_back {bs = bs} {i} v h (more {s = s} F c w S) =
    let same : get_or (set bs i v) (length s) 0 ≡ get_or bs (length s) 0 = get_or-set_other bs i (length s) v 0 (λ e. omega arith) in
    more {s = s} F c (rw same w) (rw same (stacked_back v (omega arith) S))

-- ---- rule 7

module _ (ps : List (Proc Plain)) where
  -- what a block calls is called by the procedure
  abbrev Inside : ℕ → Block Plain → Type 0
  Inside m b = (n : ℕ) → In n (callees b) → Calls ps m n

  -- what an instruction calls
  abbrev InsideI : ℕ → Instr Plain → Type 0
  InsideI m i = (n : ℕ) → In n (callees_i i) → Calls ps m n

  calls_inherited : (m : ℕ) → Inherited (Inside m) (InsideI m)
  calls_inherited m = record {
    first = λ a j b h n o. h n (in_front (callees_i j) (callees b) o);
    rest = λ a j b h n o. h n (in_back (callees_i j) (callees b) o);
    loop = λ e b h. h;
    yes = λ e b f h n o. h n (in_front (callees b) (callees f) o);
    no = λ e b f h n o. h n (in_back (callees b) (callees f) o);
  }

-- the calls of a body are those of the procedure
calls_body : (ps : List (Proc Plain)) (m : ℕ) {q : Proc Plain} → at ps m ≡ is q → (n : ℕ) → In n (callees q.body) → Calls ps m n
calls_body [] m e n o = missing e
calls_body (p ∷ ps) zero e n o = rw (is_inj e) o
calls_body (p ∷ ps) (suc m) e n o = calls_body ps m e n o

-- a call that stands in procedure m is one of its calls
pub code_calls : {ps : List (Proc Plain)} {m k n : ℕ} {es : List Expr} {d r : Block Plain} → CodeAt ps m k (step tt (call n es) d) r → Calls ps m n
code_calls {ps} {m} {n = n} c = spot_has (calls_inherited ps m) c.spot (calls_body ps m c.found) n here

-- the procedures of a stack
abbrev procs_of : Stack Plain → List ℕ
procs_of s = map (λ f. f.proc) s

-- one call more
reach_on : {ps : List (Proc Plain)} {m k q : ℕ} → Reaches ps m k → Calls ps k q → Reaches ps m q
reach_on (direct h) i = onward h (direct i)
reach_on (onward h r) i = onward h (reach_on r i)

module _ {ps : List (Proc Plain)} {ls bs : List ℕ} where
  -- a procedure of the stack reaches what the top calls
  reaches_top : (m n : ℕ) {k : ℕ} {s : Stack Plain} → Called ps n s → Stacked ps ls bs k s → member m (procs_of s) ≡ true → Reaches ps m n
  reaches_top m n l none e = absurd (never e)
  reaches_top m n l (more {f = f} {s = s} F c w S) e =
      either_passed (eqb f.proc m) (member m (procs_of s)) e
      (λ p. direct (rw (eqb-true f.proc m p) at l))
      (λ p. reach_on (reaches_top m f.proc c S p) l)

  module _ (rule : (m : ℕ) → Reaches ps m m → ⊥) where
    -- so the top does not call a procedure of the stack
    apart : (n : ℕ) {k : ℕ} {s : Stack Plain} → Called ps n s → Stacked ps ls bs k s → member n (procs_of s) ≡ false
    apart n {s = s} l S = by_test (member n (procs_of s)) (λ e. absurd (rule n (reaches_top n n l S e))) (λ e. e)

    -- no procedure is on the stack twice
    distinct : {k : ℕ} {s : Stack Plain} → Stacked ps ls bs k s → Distinct (procs_of s)
    distinct none = tt
    distinct (more {f = f} F c w S) = (apart f.proc c S, distinct S)

    -- and all are procedures
    procs_below : {k : ℕ} {s : Stack Plain} → Stacked ps ls bs k s → Each (λ m. m < length ps) (procs_of s)
    procs_below none = tt
    procs_below (more {f = f} F c w S) = (at_below ps f.proc F.found, procs_below S)

    -- "P not 1..1,024": the stack has no more frames than the program has procedures
    pub stacked_few : {k : ℕ} {s : Stack Plain} → Stacked ps ls bs k s → length s ≤ length ps
    stacked_few {s = s} S =
        omega (arith, length-map s (λ (f : Frame Plain). f.proc), distinct_below (length ps) (procs_of s) (distinct S) (procs_below S))

    -- the report's condition on a call is never broken
    pub never_runs : {k : ℕ} (n : ℕ) {s : Stack Plain} → Called ps n s → Stacked ps ls bs k s → runs n s ≡ false
    never_runs n {s} l S = same s (apart n l S)
      where
        flip : (a b : ℕ) → eqb a b ≡ false → eqb b a ≡ false
        flip a b e = by_test (eqb b a) (λ t. absurd (never (sym e ∙ eq-eqb a b (sym (eqb-true b a t))))) (λ t. t)

        same : (s : Stack Plain) → member n (procs_of s) ≡ false → runs n s ≡ false
        same [] e = refl
        same (g ∷ s) e = let w = either_failed (eqb g.proc n) (member n (procs_of s)) e in rw (flip g.proc n w.0) (same s w.1)
