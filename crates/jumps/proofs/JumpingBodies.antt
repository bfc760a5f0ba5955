-- One law for each way through the loop that fills the jump table, body by body.
use Prim.Native.Nat.{ℕ, zero, suc, ◌+◌, ◌-◌, ◌≤◌, ◌<◌}
use native.Mathlib.Omega.{arith}
use mathlib.Core.Path.{◌≡◌, refl, sym, ap, subst, ◌∙◌}
use mathlib.Core.List.{List, [], ◌∷◌}
use lib.ListN.{length, get_or}
use lib.Dec.{ltb}
use borrow.Author.Tests.{ltb-true, ltb-false}
use Rattle.value.specs.Maybe.{is}
use Rattle.value.specs.Lists.{at}
use Rattle.value.proofs.Laws.Maybes.{is_inj, missing}
use Rattle.value.proofs.Laws.Tests.{by_test}
use Rattle.value.proofs.Laws.Lists.{at_below, at_get_d, each_at}
use Rattle.format.specs.Syntax.{Block, end, Proc, Plain}
use Rattle.format.specs.Encode.{block, bodies_of}
use Rattle.labels.specs.Spots.{Spot, body_at, CodeAt}
use Rattle.labels.specs.Walks.{BlockIn, CountsBlock, BodiesAt, BodiesIn}
use Rattle.format.proofs.Laws.Grammar
use Rattle.format.proofs.Laws.Fits.{BlockFits}
use Rattle.format.proofs.Laws.Procs.{body_at_lem}
use Rattle.format.specs.Decode.{max_nesting}
use Rattle.labels.specs.Laws.Spots.{itself, spot_inside, block_some, body_stands}
use Rattle.labels.specs.declared.count.Counted.{Counted}
use Rattle.labels.proofs.Counting.{block_in}
use Rattle.jumps.specs.Jumps.{positions, last, Entry, FilledBlock, FillsBlock, FillsJumps}
use Rattle.jumps.proofs.Jumping.{code_in, end_spot, entry_kept}

-- procedures before m are done, and the body of m begins at i
pub record Filled (t : List ℕ) (c : ℕ) (js : List ℕ) (m i : ℕ) (js' : List ℕ) : Type 0 where
  pub bodies : BodiesIn t 0 c
  pub low : m ≤ c
  pub place : (ps : List (Proc Plain)) (j : ℕ) → BodiesAt t 0 c ps j → i ≡ body_at 0 ps m
  pub long : length js ≡ positions → length t ≤ positions → length js' ≡ positions
  pub entries : length js ≡ positions → length t ≤ positions → (ps : List (Proc Plain)) (j : ℕ) → BodiesAt t 0 c ps j
      → (q k : ℕ) (d r : Block Plain) → q < m → CodeAt ps q k d r → (k < i) × Entry ps q (get_or js' k 0) d r

-- the next body begins where one ends
body_next : (ps : List (Proc Plain)) (i m : ℕ) {q : Proc Plain} → at ps m ≡ is q → body_at i ps (suc m) ≡ body_at i ps m + length (block q.body)
body_next [] i m e = missing e
body_next (p ∷ []) i zero {q} e = let same : p ≡ q = is_inj e in rw (← same) refl
body_next (p ∷ x ∷ ps) i zero {q} e = let same : p ≡ q = is_inj e in rw (← same) refl
body_next (p ∷ ps) i (suc m) e = body_next ps (i + length (block p.body)) m e

-- the body of procedure m
record BodyOf (t : List ℕ) (ps : List (Proc Plain)) (i m : ℕ) : Type 0 where
  pub proc : Proc Plain
  pub found : at ps m ≡ is proc
  pub there : Grammar.BlockAt t i max_nesting proc.body (i + length (block proc.body))
  pub next : body_at 0 ps (m + 1) ≡ i + length (block proc.body)

body_of_lem : {t : List ℕ} {c m i j : ℕ} {ps : List (Proc Plain)} → BodiesAt t 0 c ps j → m < c → i ≡ body_at 0 ps m → BodyOf t ps i m
body_of_lem {t} {m = m} {i} {ps = ps} A h e =
    let none : Proc Plain = record { params = 0; locals = 0; body = end } in
    let q : Proc Plain = get_or ps m none in
    let there : at ps m ≡ is q = at_get_d ps m none (omega (arith, A.count)) in
    let one : m + 1 ≡ suc m = omega arith in
    record {
      proc = q;
      found = there;
      there = rw e (record {
        stands = body_stands ps m A.stands there;
        fits = each_at (BlockFits max_nesting) (bodies_of ps) m A.fits (body_at_lem ps m there);
      });
      next = rw (one, e) (body_next ps 0 m there);
    }

module _ {t : List ℕ} {c : ℕ} {js : List ℕ} where
  -- from the beginning
  pub bodies_start : BodiesIn t 0 c → Filled t c js 0 0 js
  bodies_start h = record {
    bodies = h;
    low = omega arith;
    place = λ ps j a. first_place ps;
    long = λ e l. e;
    entries = λ e l ps j a q k d r z. absurd (omega arith);
  }
    where
      first_place : (ps : List (Proc Plain)) → 0 ≡ body_at 0 ps 0
      first_place [] = refl
      first_place (p ∷ ps) = refl

  -- the next body
  pub bodies_in : {m i : ℕ} {js' : List ℕ} → Filled t c js m i js' → m < c → BlockIn t i max_nesting
  bodies_in F h = block_in (body_of_lem F.bodies.there h (F.place F.bodies.procs F.bodies.next F.bodies.there)).there

  pub bodies_next : {m i : ℕ} {x : Counted} {js' js'' : List ℕ} → Filled t c js m i js' → m < c → CountsBlock t i max_nesting x
      → FillsBlock t i max_nesting (x.next - 1) js' js'' → Filled t c js (m + 1) x.next js''
  bodies_next {m} {i} {x} {js'} {js''} F h X B = record {
    bodies = F.bodies;
    low = omega arith;
    place = λ ps j a. let w = one ps j a in ends w ∙ sym w.next;
    long = λ e l.
        let a = F.bodies.there in
        let w = one F.bodies.procs F.bodies.next a in
        (B.gives (F.long e l) l w.proc.body _ w.there).beside.long ∙ F.long e l;
    entries = λ e l ps j a q k d r z o.
        let w = one ps j a in
        let G : FilledBlock i w.proc.body (i + length (block w.proc.body)) (x.next - 1) js' js'' =
        B.gives (F.long e l) l w.proc.body _ w.there
        in
        by_test (ltb q m)
        (λ before.
        let old = F.entries e l ps j a q k d r (ltb-true q m before) o in
        (omega (arith, old.0, ends w, block_some w.proc.body), entry_kept (G.beside.below k old.0) old.1))
        (λ not_before.
        let same : q ≡ m = omega (arith, ltb-false q m not_before) in
        this w (F.place ps j a) G (subst (λ (z : ℕ). CodeAt ps z k d r) same o) (sym same));
  }
    where
      one : (ps : List (Proc Plain)) (j : ℕ) (a : BodiesAt t 0 c ps j) → BodyOf t ps i m
      one ps j a = body_of_lem a h (F.place ps j a)

      ends : {ps : List (Proc Plain)} (w : BodyOf t ps i m) → x.next ≡ i + length (block w.proc.body)
      ends w = ap (λ (z : Counted). z.next) (X.gives w.proc.body _ w.there)

      this : {ps : List (Proc Plain)} {q k : ℕ} {d r : Block Plain} (w : BodyOf t ps i m) → i ≡ body_at 0 ps m
          → FilledBlock i w.proc.body (i + length (block w.proc.body)) (x.next - 1) js' js'' → CodeAt ps m k d r → m ≡ q
          → (k < x.next) × Entry ps q (get_or js'' k 0) d r
      this {ps} {q} {k} {d} {r} w place G o same =
          let whole : CodeAt ps m i w.proc.body end = record { proc = w.proc; found = w.found; spot = rw (← place) itself } in
          let proc : o.proc ≡ w.proc = is_inj (sym o.found ∙ w.found) in
          let spot : Spot k d r i w.proc.body end =
          subst (λ (z : Proc Plain). Spot k d r i z.body end) proc (rw (← place) at o.spot)
          in
          let end_at_lem : CodeAt ps m (x.next - 1) end end =
          subst (λ (z : ℕ). CodeAt ps m (z - 1) end end) (sym (ends w)) (code_in whole (end_spot w.proc.body end i))
          in (
            omega (arith, spot_inside spot, block_some d, ends w),
            subst (λ (z : ℕ). Entry ps z (get_or js'' k 0) d r) same (G.entries ps m end whole (last end_at_lem refl) k d r spot),
          )

  -- all are done
  pub bodies_end : {m i : ℕ} {js' : List ℕ} → Filled t c js m i js' → c ≤ m → FillsJumps t c js js'
  bodies_end {m} F h = record {
    gives = λ e l ps j a. record {
      entry = λ q k d r o.
          let few : q < length ps = at_below ps q o.found in
          (F.entries e l ps j a q k d r (omega (arith, a.count, F.low)) o).1;
    };
  }

-- one law for each way through the loop over the bodies
pub ruleset bodies_ways = (bodies_start, bodies_in, bodies_next, bodies_end)
