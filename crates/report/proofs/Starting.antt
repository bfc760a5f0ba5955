-- How a run begins: each thread with one frame, whose one row is the body of its main.
use Prim.Native.Nat.{ℕ, zero, suc, ◌+◌, ◌*◌, ◌-◌, ◌/◌, ◌≤◌, ◌<◌}
use native.Mathlib.Omega.{arith}
use mathlib.Core.Path.{◌≡◌, refl, sym, ap, ◌∙◌}
use mathlib.Core.List.{List, [], ◌∷◌, map}
use lib.ListN.{length, get_or, set, length-set, length-map, length-replicate}
use lib.Seq.{get_or-set_same, get_or-set_other}
use lib.Dec.{eqb}
use borrow.Author.Tests.{eqb-true, eqb-false}
use Rattle.value.specs.Maybe.{is, nothing}
use Rattle.value.specs.Lists.{at, upto}
use Rattle.value.proofs.Laws.Maybes.{is_inj}
use Rattle.value.proofs.Laws.Tests.{by_test}
use Rattle.value.proofs.Laws.Lists.{at_below, at_get_d}
use Rattle.basics.specs.Places.{number_at}
use Rattle.format.specs.Syntax.{Proc, Program, Plain, concurrent}
use Rattle.format.specs.Encode.{table, record_size}
use Rattle.format.specs.Labels.{labelled, first, ends_of, body_of}
use Rattle.format.proofs.Laws.Procs.{main_at}
use Rattle.format.proofs.Laws.Sound.{Sound}
use Rattle.format.proofs.Laws.TablePlaces.{records_at}
use Rattle.labels.specs.Laws.Spots.{remains_body, join_end}
use Rattle.semantics.specs.Step.{entered}
use Rattle.semantics.specs.Threads as P
use Rattle.engine.specs.Work.{frame_words, thread_words}
use Rattle.engine.specs.Laws.Work.{beside_same, framed_none, framed_entered}
use Rattle.atomic.specs.Threaded.{thread_frames, most_threads, FrameAt, Threaded, all_frames}
use Rattle.atomic.specs.Laws.Threading.{few_locals_lem}
use Rattle.concurrent.proofs.Beginning.{length_starts, starts_at, labels_there}
use Rattle.concurrent.proofs.Stepping.{body_of_lem}
use Rattle.report.specs.Rows.{most_rows, all_rows, RowsAt, none, some, AllRows, HasRecord}
use Rattle.report.specs.Running.{Beginning, Begins}
use Rattle.report.proofs.Standing.{BodyAt, body_here}

-- ---- thread by thread

module _ {t : List ℕ} {i records : ℕ} where
  -- the loop begins
  pub begins_none : {depths heights rows : List ℕ} → length depths ≡ most_threads → length heights ≡ all_frames → length rows ≡ all_rows
      → Begins t i records 0 depths heights rows
  begins_none e f g = record {
    depths_long = e;
    heights_long = f;
    rows_long = g;
    depth = λ k l. absurd (omega arith);
    height = λ k l. absurd (omega arith);
    row = λ k l. absurd (omega arith);
  }

  -- the main of thread n has a record
  pub begins_record : {N n m : ℕ} → Beginning t i records N → n < N → m ≡ number_at 2 t (i + 2 * n) → HasRecord t records m
  begins_record {n = n} B l e = record { inside = rw e (B.inside n l) }

  module _ {depths heights rows : List ℕ} {n : ℕ} (h : Begins t i records n depths heights rows) where
    -- one more
    pub begins_more : {N m k : ℕ} → Beginning t i records N → n < N → m ≡ number_at 2 t (i + 2 * n) → k ≡ number_at 4 t (records + record_size * m + 2)
        → Begins t i records (n + 1) (set depths n 1) (set heights (thread_frames * n) 1) (set rows (most_rows * (thread_frames * n)) k)
    begins_more {m = m} {k} B l e f = record {
      depths_long = length-set depths n 1 ∙ h.depths_long;
      heights_long = length-set heights (thread_frames * n) 1 ∙ h.heights_long;
      rows_long = length-set rows (most_rows * (thread_frames * n)) k ∙ h.rows_long;
      depth = λ j q. by_test (eqb j n)
          (λ z. let same : j ≡ n = eqb-true j n z in rw same (get_or-set_same depths n 1 0 (omega (arith, h.depths_long, B.mains.few))))
          (λ z. let other = eqb-false j n z in get_or-set_other depths n j 1 0 other ∙ h.depth j (omega arith));
      height = λ j q. by_test (eqb j n)
          (λ z.
          let same : j ≡ n = eqb-true j n z in
          rw same (get_or-set_same heights (thread_frames * n) 1 0 (omega (arith, h.heights_long, B.mains.few))))
          (λ z.
          let other = eqb-false j n z in
          let apart : thread_frames * j ≡ thread_frames * n → ⊥ = λ w. other (omega arith) in
          get_or-set_other heights (thread_frames * n) (thread_frames * j) 1 0 apart ∙ h.height j (omega arith));
      row = λ j q. by_test (eqb j n)
          (λ z.
          let same : j ≡ n = eqb-true j n z in
          rw (same, ← e, ← f) (get_or-set_same rows (most_rows * (thread_frames * n)) k 0 (omega (arith, h.rows_long, B.mains.few))))
          (λ z.
          let other = eqb-false j n z in
          let apart : most_rows * (thread_frames * j) ≡ most_rows * (thread_frames * n) → ⊥ = λ w. other (omega arith) in
          get_or-set_other rows (most_rows * (thread_frames * n)) (most_rows * (thread_frames * j)) k 0 apart ∙ h.row j (omega arith));
    }

    -- all
    pub begins_all : {N : ℕ} → n ≤ N → N ≤ n → Begins t i records N depths heights rows
    begins_all {N} l m = let same : n ≡ N = omega arith in rw (← same) h

-- one law for each way
pub ruleset begin_ways = (begins_none, begins_record, begins_more, begins_all)

-- ---- the first stacks

-- what stands at a place of a row that is made by place
get_d_upto : (f : ℕ → ℕ) (n i k : ℕ) → k < n → get_or (map f (upto i n)) k 0 ≡ f (i + k)
get_d_upto f zero i k l = absurd (omega arith)
get_d_upto f (suc n) i zero l = let same : i + 0 ≡ i = omega arith in rw same
get_d_upto f (suc n) i (suc k) l = let same : i + suc k ≡ suc i + k = omega arith in get_d_upto f n (suc i) k (omega arith) ∙ ap f (sym same)

-- its length
length_upto : (n i : ℕ) → length (upto i n) ≡ n
length_upto zero i = refl
length_upto (suc n) i = ap suc (length_upto n (suc i))

module _ (p : Program Plain) where
  -- the first label of frame j, if it is the first of its thread
  label_at : ℕ → ℕ
  label_at j = let m : ℕ = get_or p.mains (j / thread_frames) 0 in first (ends_of p m) (body_of (labelled p).procs m)

  -- labels: none is at work, but there are such
  pub first_labels : List ℕ
  first_labels = map label_at (upto 0 all_frames)

  -- that of thread k
  first_label : Sound concurrent p → (k m : ℕ) → at p.mains k ≡ is m → get_or first_labels (thread_frames * k + 0) 0 ≡ first (ends_of p m) (body_of (labelled p).procs m)
  unfolding label_at first_labels
  first_label sound k m e =
      let low : k < length p.mains = at_below p.mains k e in
      let there : thread_frames * k + 0 < all_frames = omega (arith, sound.threads.high) in
      let part : (0 + (thread_frames * k + 0)) / thread_frames ≡ k = omega arith in
      let main : get_or p.mains k 0 ≡ m = is_inj (sym (at_get_d p.mains k 0 low) ∙ e) in
      get_d_upto label_at all_frames 0 (thread_frames * k + 0) there
      ∙ ap (λ j. let m : ℕ = get_or p.mains j 0 in first (ends_of p m) (body_of (labelled p).procs m)) part
      ∙ ap (λ m. first (ends_of p m) (body_of (labelled p).procs m)) main

  -- as many as frames
  labels_long : length first_labels ≡ all_frames
  unfolding first_labels
  labels_long = length-map (upto 0 all_frames) label_at ∙ length_upto all_frames 0

module _ {p : Program Plain} {t depths heights rows ls : List ℕ} {i records : ℕ} (sound : Sound concurrent p)
    (B : Begins t i records (length p.mains) depths heights rows)
    (zeros : (k x : ℕ) → k < length p.mains → x < frame_words → get_or ls (frame_words * (thread_frames * k) + x) 0 ≡ 0)
    (long : length ls ≡ thread_words) where
  -- the frame of thread k
  first_frame : (k m : ℕ) (q : Proc ℕ) → at p.mains k ≡ is m → at (labelled p).procs m ≡ is q
      → FrameAt p ls (get_or (first_labels p) (thread_frames * k + 0) 0) (thread_frames * k + 0) (entered m q [])
  first_frame k m q e f =
      let low : k < length p.mains = at_below p.mains k e in
      let few = few_locals_lem sound m f in
      let fits : frame_words * (thread_frames * k + 0) + q.locals ≤ length ls = omega (arith, sound.threads.high) in
      record {
        remains = remains_body f;
        label = first_label p sound k m e ∙ ap (first (ends_of p m)) (body_of_lem (labelled p).procs m f);
        framed =
            framed_entered {fb = frame_words * (thread_frames * k + 0)} {n = q.locals} [] (framed_none (omega arith)) (omega arith) fits
            (record {
              beside = beside_same;
              zero = λ x a b.
                  let y : ℕ = x - frame_words * (thread_frames * k) in
                  let same : x ≡ frame_words * (thread_frames * k) + y = omega arith in
                  rw same (zeros k y low (omega (arith, few)));
            });
        full = λ r g. length-replicate (q.locals - 0) nothing ∙ omega (arith, ap (λ (z : Proc ℕ). z.locals) (is_inj (sym f ∙ g)));
      }

  pub starts_threaded : Threaded p (first_labels p) depths ls (P.start (labelled p)).threads
  starts_threaded = record {
    count = length_starts (labelled p).procs p.mains;
    labels_long = labels_long p;
    depths_long = B.depths_long;
    each = λ k s e.
        let w = starts_at (labelled p).procs p.mains k e in
        let found = main_at sound k w.0 w.1 in
        let q = labels_there p.procs 1 w.0 found.1 in
        let one : s ≡ entered w.0 q.0 [] ∷ [] = w.2 ∙ ap (P.begun w.0) q.1 in
        rw one (record {
          depth = B.depth k (at_below p.mains k w.1);
          frames = (first_frame k w.0 q.0 w.1 q.1, tt);
          linked = (tt, tt);
        });
  }

module _ {p : Program Plain} {t depths heights rows : List ℕ} {i records : ℕ} (sound : Sound concurrent p) (same : t ≡ table concurrent p)
    (heads : records ≡ records_at p) (mains : (k m : ℕ) → at p.mains k ≡ is m → number_at 2 t (i + 2 * k) ≡ m)
    (B : Begins t i records (length p.mains) depths heights rows) where
  -- and its row
  first_row : (k m : ℕ) (q : Proc ℕ) → at p.mains k ≡ is m → at (labelled p).procs m ≡ is q
      → RowsAt t rows (most_rows * (thread_frames * k + 0)) (get_or heights (thread_frames * k + 0) 0) q.body
  first_row k m q e f =
      let low : k < length p.mains = at_below p.mains k e in
      let here : thread_frames * k + 0 ≡ thread_frames * k = omega arith in
      let place : most_rows * (thread_frames * k) + 0 ≡ most_rows * (thread_frames * k) = omega arith in
      let w : BodyAt same sound records m q = body_here same sound heads f in
      let row : get_or rows (most_rows * (thread_frames * k) + 0) 0 ≡ number_at 4 t (records + record_size * m + 2) =
      ap (λ j. get_or rows j 0) place ∙ B.row k low ∙ ap (λ m. number_at 4 t (records + record_size * m + 2)) (mains k m e)
      in
      rw (here, B.height k low)
      (some {n = 0} q.body _ w.last (sym (join_end q.body)) (rw row w.here) (none refl))

  pub starts_rowed : AllRows t rows heights (P.start (labelled p)).threads
  starts_rowed = record {
    rows_long = B.rows_long;
    heights_long = B.heights_long;
    each = λ k s e.
        let w = starts_at (labelled p).procs p.mains k e in
        let found = main_at sound k w.0 w.1 in
        let q = labels_there p.procs 1 w.0 found.1 in
        let one : s ≡ entered w.0 q.0 [] ∷ [] = w.2 ∙ ap (P.begun w.0) q.1 in
        rw one (first_row k w.0 q.0 w.1 q.1, tt);
  }
