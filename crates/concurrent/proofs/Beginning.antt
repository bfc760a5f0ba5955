-- The threads of the concurrent machine: whether all are finished, and their first frames.
use Prim.Native.Nat.{ℕ, zero, suc, ◌+◌, ◌*◌, ◌-◌, ◌≤◌, ◌<◌}
use native.Mathlib.Omega.{arith}
use mathlib.Core.Path.{◌≡◌, refl, sym, ap, ◌∙◌}
use mathlib.Core.List.{List, [], ◌∷◌}
use mathlib.Core.Bool.{Bool, true, false}
use lib.ListN.{length, get_or, length-replicate}
use Rattle.value.specs.Maybe.{is, nothing}
use Rattle.value.specs.Lists.{at}
use Rattle.basics.specs.Places.{number_at}
use Rattle.value.proofs.Laws.Maybes.{is_inj, missing}
use Rattle.value.proofs.Laws.Lists.{at_below, at_get_d}
use Rattle.format.specs.Syntax.{Proc, Program, Plain, concurrent}
use Rattle.format.specs.Labels.{count, labels, labelled, first, ends_of, body_of}
use Rattle.labels.specs.LabelMap.{Mapped}
use Rattle.format.proofs.Laws.Procs.{main_at}
use Rattle.format.proofs.Laws.Sound.{Sound}
use Rattle.labels.specs.Laws.Spots.{remains_body}
use Rattle.semantics.specs.Step.{Stack, entered}
use Rattle.semantics.specs.Threads as P
use Rattle.engine.specs.Work.{frame_words, thread_words}
use Rattle.atomic.specs.Threaded.{thread_frames, FrameAt, Threaded}
use Rattle.concurrent.specs.Concurrent.{AllDone, Begins}
use Rattle.atomic.specs.Laws.Threading.{few_locals_lem}
use Rattle.engine.specs.Laws.Work.{beside_same, framed_none, framed_entered}

-- ---- all threads are finished

-- no stack has a frame
done_all : (ts : List (Stack ℕ)) → ((i : ℕ) (s : Stack ℕ) → at ts i ≡ is s → length s ≡ 0) → P.done ts ≡ true
done_all [] h = refl
done_all ([] ∷ ts) h = done_all ts (λ i s e. h (suc i) s e)
done_all ((f ∷ s) ∷ ts) h = let none : length (f ∷ s) ≡ 0 = h 0 (f ∷ s) refl in absurd (omega arith)

-- some stack has
done_not : (ts : List (Stack ℕ)) (i : ℕ) (s : Stack ℕ) → at ts i ≡ is s → (length s ≡ 0 → ⊥) → P.done ts ≡ false
done_not [] i s e h = missing e
done_not ([] ∷ ts) zero s e h = absurd (h (ap length (sym (is_inj e))))
done_not ([] ∷ ts) (suc i) s e h = done_not ts i s e h
done_not ((f ∷ r) ∷ ts) i s e h = refl

-- what the code says of the stacks
pub done_of : {p : Program Plain} {labels depths ls : List ℕ} {ts : List (Stack ℕ)} {n : ℕ} (b : Bool) → Threaded p labels depths ls ts
    → n ≡ length p.mains → AllDone depths n b → P.done ts ≡ b
done_of {ts = ts} true h e d = done_all ts (λ i s q. sym (h.each i s q).depth ∙ d.every refl i (omega (arith, at_below ts i q, h.count)))
done_of {ts = ts} false h e d =
    let w = d.some refl in
    let there : w.0 < length ts = omega (arith, w.1, h.count) in
    let found = at_get_d ts w.0 [] there in
    done_not ts w.0 (get_or ts w.0 []) found (λ q. w.2 ((h.each w.0 (get_or ts w.0 []) found).depth ∙ q))

-- ---- the first stacks

-- as many as mains
pub length_starts : (ps : List (Proc ℕ)) (ms : List ℕ) → length (P.starts ps ms) ≡ length ms
length_starts ps [] = refl
length_starts ps (m ∷ ms) = ap suc (length_starts ps ms)

-- each is that of its main
pub starts_at : (ps : List (Proc ℕ)) (ms : List ℕ) (i : ℕ) {s : Stack ℕ} → at (P.starts ps ms) i ≡ is s
    → (m : ℕ) × (at ms i ≡ is m) × (s ≡ P.begun m (at ps m))
starts_at ps [] i e = missing e
starts_at ps (m ∷ ms) zero e = (m, refl, sym (is_inj e))
starts_at ps (m ∷ ms) (suc i) e = starts_at ps ms i e

-- a procedure is there when it is labelled too
pub labels_there : (ps : List (Proc Plain)) (l m : ℕ) {q : Proc Plain} → at ps m ≡ is q → (r : Proc ℕ) × (at (labels l ps) m ≡ is r)
labels_there [] l m e = missing e
labels_there (p ∷ ps) l zero e = (_, refl)
labels_there (p ∷ ps) l (suc m) e = labels_there ps (l + suc (count p.body)) m e

-- the body of procedure m
body_of_lem : (ps : List (Proc ℕ)) (m : ℕ) {q : Proc ℕ} → at ps m ≡ is q → body_of ps m ≡ q.body
body_of_lem [] m e = missing e
body_of_lem (p ∷ ps) zero e = rw (is_inj e)
body_of_lem (p ∷ ps) (suc m) e = body_of_lem ps m e

-- each thread begins with one frame, whose locals are not set
module _ {p : Program Plain} {t map bounds labels depths ls : List ℕ} {i : ℕ} (sound : Sound concurrent p) (mapped : Mapped p map bounds)
    (mains : (k m : ℕ) → at p.mains k ≡ is m → number_at 2 t (i + 2 * k) ≡ m) (B : Begins t i (length p.mains) bounds labels depths)
    (zeros : (k x : ℕ) → k < length p.mains → x < frame_words → get_or ls (frame_words * (thread_frames * k) + x) 0 ≡ 0)
    (long : length ls ≡ thread_words) where
  -- the frame of thread k
  first_frame : (k m : ℕ) (q : Proc ℕ) → at p.mains k ≡ is m → at (labelled p).procs m ≡ is q
      → FrameAt p ls (get_or labels (thread_frames * k + 0) 0) (thread_frames * k + 0) (entered m q [])
  first_frame k m q e f =
      let low : k < length p.mains = at_below p.mains k e in
      let found = main_at sound k m e in
      let few = few_locals_lem sound m f in
      let here : thread_frames * k + 0 ≡ thread_frames * k = omega arith in
      let fits : frame_words * (thread_frames * k + 0) + q.locals ≤ length ls = omega (arith, sound.threads.high) in
      record {
        remains = remains_body f;
        label =
            ap (λ j. get_or labels j 0) here ∙ B.label k low ∙ ap (λ j. get_or bounds (2 * j) 0) (mains k m e)
            ∙ mapped.begins m (at_below p.procs m found.1) ∙ ap (first (ends_of p m)) (body_of_lem (labelled p).procs m f);
        framed =
            framed_entered {fb = frame_words * (thread_frames * k + 0)} {n = q.locals} [] (framed_none (omega arith)) (omega arith) fits
            (record {
              beside = beside_same;
              zero = λ x a b.
                  let y : ℕ = x - frame_words * (thread_frames * k) in
                  let same : x ≡ frame_words * (thread_frames * k) + y = omega arith in
                  rw same (zeros k y low (omega (arith, few)));
            });
        full = λ r g. length-replicate (q.locals - 0) nothing ∙ omega (arith, ap (λ (z : Proc ℕ). z.locals) (is_inj (sym f ∙ g)));
      }

  pub starts_threaded : Threaded p labels depths ls (P.start (labelled p)).threads
  starts_threaded = record {
    count = length_starts (labelled p).procs p.mains;
    labels_long = B.labels_long;
    depths_long = B.depths_long;
    each = λ k s e.
        let w = starts_at (labelled p).procs p.mains k e in
        let found = main_at sound k w.0 w.1 in
        let q = labels_there p.procs 1 w.0 found.1 in
        let one : s ≡ entered w.0 q.0 [] ∷ [] = w.2 ∙ ap (P.begun w.0) q.1 in
        rw one (record {
          depth = B.depth k (at_below p.mains k w.1);
          frames = (first_frame k w.0 q.0 w.1 q.1, tt);
          linked = (tt, tt);
        });
  }
