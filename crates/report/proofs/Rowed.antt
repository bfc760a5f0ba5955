-- The rows of frames at work: what is left of them where others change, and how those of the uppermost frame go on.
use Prim.Native.Nat.{ℕ, suc, ◌+◌, ◌*◌, ◌-◌, ◌≤◌, ◌<◌}
use native.Mathlib.Omega.{arith}
use mathlib.Core.Path.{◌≡◌, refl, sym, ap, subst, ◌∙◌}
use mathlib.Core.List.{List, [], ◌∷◌}
use lib.ListN.{length, get_or, set}
use lib.Seq.{get_or-set_same}
use lib.Dec.{eqb, ltb}
use borrow.Author.Tests.{eqb-true, eqb-false, ltb-true, ltb-false}
use Rattle.value.specs.Maybe.{is}
use Rattle.value.specs.Lists.{at}
use Rattle.value.proofs.Laws.Maybes.{is_inj}
use Rattle.value.proofs.Laws.Tests.{by_test}
use Rattle.value.proofs.Laws.Lists.{at_set_same, at_set_other, at_below}
use Rattle.format.specs.Syntax.{Instr, Block, end, step, ◌⊕◌}
use Rattle.format.specs.Decode.{max_nesting}
use Rattle.format.proofs.Laws.Grammar.{InstrAt, BlockAt, StepAt, end_here, step_here, block_inside, block_deep}
use Rattle.semantics.specs.Step.{Frame, Stack}
use Rattle.engine.specs.Work.{Beside}
use Rattle.engine.specs.Laws.Work.{beside_same, beside_set}
use Rattle.atomic.specs.Threaded.{thread_frames, most_frames, all_frames}
use Rattle.atomic.specs.Laws.Threading.{set_same}
use Rattle.report.specs.Rows.{most_rows, RowsAt, none, some, FrameRows, AllRows, Leaves}

-- ---- the rows of a frame

-- there are few
pub few_rows : {t rows : List ℕ} {k n : ℕ} {c : Block ℕ} → RowsAt t rows k n c → n ≤ most_rows
few_rows (none e) = omega arith
few_rows (some b rest j e w h) = omega (arith, block_deep w)

-- each is a position of the table
pub rows_within : {t rows : List ℕ} {k n : ℕ} {c : Block ℕ} → RowsAt t rows k n c → (i : ℕ) → i < n → get_or rows (k + i) 0 < length t
rows_within (none e) i l = absurd (omega arith)
rows_within (some {n = n} b rest j e w h) i l = by_test (eqb i n)
    (λ q. let same : i ≡ n = eqb-true i n q in rw same (omega (arith, block_inside w)))
    (λ q. let other = eqb-false i n q in rows_within h i (omega arith))

module _ {rows rows' : List ℕ} {a b : ℕ} (B : Beside rows rows' a b) where
  -- those below the ones that are others
  pub rows_below : {t : List ℕ} {k n : ℕ} {c : Block ℕ} → k + n ≤ a → RowsAt t rows k n c → RowsAt t rows' k n c
  rows_below l (none e) = none e
  rows_below {k = k} l (some {n = n} b rest j e w h) = some {n = n} b rest j e (rw (B.below (k + n) (omega arith)) w) (rows_below (omega arith) h)

  -- and above them
  pub rows_above : {t : List ℕ} {k n : ℕ} {c : Block ℕ} → b ≤ k → RowsAt t rows k n c → RowsAt t rows' k n c
  rows_above l (none e) = none e
  rows_above {k = k} l (some {n = n} b rest j e w h) = some {n = n} b rest j e (rw (B.above (k + n) (omega arith)) w) (rows_above l h)

-- ---- those that are used up go away

rows_used : {t rows : List ℕ} {k n : ℕ} (r : ℕ) {c : Block ℕ} → RowsAt t rows k n c → r ≤ n
    → ((i : ℕ) → r ≤ i → i < n → get_or t (get_or rows (k + i) 0) 0 ≡ 0) → RowsAt t rows k r c
rows_used r (none e) l u = let all : r ≡ 0 = omega arith in rw all (none e)
rows_used r (some {n = n} {c = c} b rest j e w h) l u =
    by_test (eqb r (suc n))
    (λ q. let same : r ≡ suc n = eqb-true r (suc n) q in rw same (some b rest j e w h))
    (λ q.
    let other = eqb-false r (suc n) q in
    let gone : b ≡ end = (end_here w (u n (omega arith) (omega arith))).0 in
    let code : c ≡ rest = e ∙ ap (◌⊕ rest) gone in
    rw code (rows_used r h (omega arith) (λ i x y. u i x (omega arith))))

-- ---- how the uppermost one goes on

-- it begins with an instruction, which stands there
pub record Upper (t rows : List ℕ) (k n : ℕ) (c : Block ℕ) : Type 0 where
  pub tag : ℕ
  pub instr : Instr ℕ
  pub left : Block ℕ
  pub rest : Block ℕ
  pub code : c ≡ step tag instr (left ⊕ rest)
  pub next : ℕ
  pub here : InstrAt t (get_or rows (k + n) 0) (max_nesting - suc n) instr next
  pub last : ℕ
  pub after : BlockAt t next (max_nesting - n) left last
  pub below : RowsAt t rows k n rest
  pub whole : RowsAt t rows k (suc n) c

pub upper : {t rows : List ℕ} {k n : ℕ} {c : Block ℕ} → RowsAt t rows k (suc n) c → (get_or t (get_or rows (k + n) 0) 0 ≡ 0 → ⊥) → Upper t rows k n c
upper {t} {rows} {k} {n} {c} (some b rest j e w h) z =
    let s : StepAt t (get_or rows (k + n) 0) (max_nesting - n) b j = step_here w z in
    let deep : max_nesting - n - 1 ≡ max_nesting - suc n = omega arith in
    record {
      tag = s.tag;
      instr = s.s;
      left = s.rest;
      rest = rest;
      code = e ∙ ap (◌⊕ rest) s.is;
      next = s.k;
      here = rw deep at s.here;
      last = j;
      after = s.after;
      below = h;
      whole = some b rest j e w h;
    }

-- at another place of its block, or with a block more: what is left of a block at place x comes first
pub rows_put : {t rows : List ℕ} {k n : ℕ} (x : ℕ) {j : ℕ} {b rest : Block ℕ} → k + n < length rows → BlockAt t x (max_nesting - n) b j → RowsAt t rows k n rest
    → RowsAt t (set rows (k + n) x) k (suc n) (b ⊕ rest)
rows_put {rows = rows} {k} {n} x {j} {b} {rest} room w h =
    some {n = n} b rest j refl (rw (get_or-set_same rows (k + n) x 0 room) w) (rows_below (beside_set rows (k + n) x) (omega arith) h)

-- ---- the frames of a stack

module _ (t : List ℕ) {rows heights rows' heights' : List ℕ} {a b : ℕ} (R : Beside rows rows' (most_rows * a) (most_rows * b))
    (H : Beside heights heights' a b) where
  -- below those whose rows are others
  pub frames_under : (k : ℕ) (s : Stack ℕ) → k + length s ≤ a → FrameRows t rows heights k s → FrameRows t rows' heights' k s
  frames_under k [] l h = tt
  frames_under k (f ∷ s) l h = (
    rw (H.below (k + length s) (omega arith)) (rows_below R (omega (arith, few_rows h.0)) h.0),
    frames_under k s (omega arith) h.1,
  )

  -- above them
  pub frames_over : (k : ℕ) (s : Stack ℕ) → b ≤ k → FrameRows t rows heights k s → FrameRows t rows' heights' k s
  frames_over k [] l h = tt
  frames_over k (f ∷ s) l h = (
    rw (H.above (k + length s) (omega arith)) (rows_above R (omega arith) h.0),
    frames_over k s l h.1,
  )

  -- ---- the stacks of all threads

  -- one thread has another stack
  pub rows_set : {ts : List (Stack ℕ)} (i : ℕ) {s : Stack ℕ} (s' : Stack ℕ) → AllRows t rows heights ts → at ts i ≡ is s
      → ((u : ℕ) (r : Stack ℕ) → at ts u ≡ is r → length r ≤ most_frames) → thread_frames * i ≤ a → b ≤ thread_frames * i + thread_frames
      → FrameRows t rows' heights' (thread_frames * i) s' → AllRows t rows' heights' (set ts i s')
  rows_set {ts} i {s} s' h e few low high new = record {
    rows_long = R.long ∙ h.rows_long;
    heights_long = H.long ∙ h.heights_long;
    each = λ u r q. by_test (eqb u i)
        (λ o.
        let same : u ≡ i = eqb-true u i o in
        let stack : s' ≡ r = is_inj (sym (at_set_same ts i s' (at_below ts i e)) ∙ ap (at (set ts i s')) (sym same) ∙ q) in
        rw (same, ← stack) new)
        (λ o.
        let was : at ts u ≡ is r = sym (at_set_other ts i u s' (eqb-false u i o)) ∙ q in
        kept u r (eqb-false u i o) (few u r was) (h.each u r was));
  }
    where
      kept : (u : ℕ) (r : Stack ℕ) → (u ≡ i → ⊥) → length r ≤ most_frames → FrameRows t rows heights (thread_frames * u) r
          → FrameRows t rows' heights' (thread_frames * u) r
      kept u r other small g = by_test (ltb u i)
          (λ o. let below : u < i = ltb-true u i o in frames_under (thread_frames * u) r (omega arith) g)
          (λ o. let above : i ≤ u = ltb-false u i o in frames_over (thread_frames * u) r (omega arith) g)

-- thread i runs the frame f, above those of s
module _ {t rows heights : List ℕ} {ts : List (Stack ℕ)} (i : ℕ) (f : Frame ℕ) (s : Stack ℕ) (h : AllRows t rows heights ts)
    (e : at ts i ≡ is (f ∷ s)) (few : (u : ℕ) (r : Stack ℕ) → at ts u ≡ is r → length r ≤ most_frames) where
  -- the number of that frame
  abbrev top : ℕ
  top = thread_frames * i + length s

  -- its rows
  pub own_rows : RowsAt t rows (most_rows * top) (get_or heights top 0) f.code
  own_rows = (h.each i (f ∷ s) e).0

  -- it has other ones
  pub rows_then : {rows' heights' : List ℕ} (f' : Frame ℕ) → Beside rows rows' (most_rows * top) (most_rows * (top + 1)) → Beside heights heights' top (top + 1)
      → RowsAt t rows' (most_rows * top) (get_or heights' top 0) f'.code → AllRows t rows' heights' (set ts i (f' ∷ s))
  rows_then f' R H new =
      rows_set t R H i (f' ∷ s) h e few (omega arith) (omega (arith, few i (f ∷ s) e))
      (new, frames_under t R H (thread_frames * i) s (omega arith) (h.each i (f ∷ s) e).1)

  -- the same code in fewer rows
  pub rows_settled : {r : ℕ} → top < all_frames → Leaves t rows (most_rows * top) (get_or heights top 0) r → AllRows t rows (set heights top r) ts
  rows_settled {r} room L =
      subst (AllRows t rows (set heights top r)) (set_same ts i e)
      (rows_then f beside_same (beside_set heights top r)
      (rw (get_or-set_same heights top r 0 (omega (arith, h.heights_long))) (rows_used r own_rows L.less L.used)))

  -- it calls the frame g
  pub rows_called : {rows' heights' : List ℕ} (f' g : Frame ℕ) → Beside rows rows' (most_rows * top) (most_rows * (top + 2)) → Beside heights heights' top (top + 2)
      → RowsAt t rows' (most_rows * top) (get_or heights' top 0) f'.code → RowsAt t rows' (most_rows * (top + 1)) (get_or heights' (top + 1) 0) g.code
      → AllRows t rows' heights' (set ts i (g ∷ f' ∷ s))
  rows_called f' g R H mine new =
      let next : thread_frames * i + length (f' ∷ s) ≡ top + 1 = omega arith in
      rows_set t R H i (g ∷ f' ∷ s) h e few (omega arith) (omega (arith, few i (f ∷ s) e))
      (rw next new, (mine, frames_under t R H (thread_frames * i) s (omega arith) (h.each i (f ∷ s) e).1))

  -- it returns
  pub rows_back : AllRows t rows heights (set ts i s)
  rows_back =
      rows_set t (beside_same {a = most_rows * top} {b = most_rows * top}) (beside_same {a = top} {b = top}) i s h e few (omega arith) (omega (arith, few i (f ∷ s) e))
      (h.each i (f ∷ s) e).1
