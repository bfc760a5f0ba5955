-- A step of one thread leaves the stacks of the others, and of its own stack the frames below the top.
use Rattle.std.specs.Prelude.{ℕ, zero, suc, ◌+◌, ◌*◌, ◌≤◌, ◌<◌, ◌≡◌, List, [], ◌∷◌, length, get_or, set, eqb, ltb}
use Rattle.std.proofs.Common.{arith, sym, ap, subst, ◌∙◌, length-set, get_or-set_same, get_or-set_other, eqb-true, ltb-true, ltb-false}
use Rattle.std.proofs.lemmas.Bool.{eqb-false}
use Rattle.value.specs.Maybe.{is}
use Rattle.value.specs.Lists.{at}
use Rattle.value.proofs.Laws.Maybes.{is_inj, missing}
use Rattle.value.proofs.Laws.Tests.{by_test}
use Rattle.value.proofs.Laws.Lists.{In, at_set_same, at_set_other, at_below}
use Rattle.format.specs.Syntax.{Proc, Program, Plain, concurrent}
use Rattle.format.specs.Labels.{labels, labelled}
use Rattle.format.specs.Rules.{callees_of, max_locals}
use Rattle.format.proofs.Laws.Procs.{ProcSound, proc_sound}
use Rattle.format.proofs.Laws.Sound.{Sound}
use Rattle.semantics.specs.Step.{Frame, Stack}
use Rattle.engine.specs.Work.{frame_words, Beside}
use Rattle.atomic.specs.Threaded.{most_frames, thread_frames, most_threads, FrameAt, FramesAt, ThreadAt, Threaded, all_frames}
use Rattle.engine.specs.Laws.Work.{beside_same, beside_set}
use Rattle.atomic.specs.Laws.Standing.{Labelled, labelled_at}
use Rattle.atomic.specs.Laws.Linked.{remains_proc, few_frames}

-- at most some words are others: so are they among more words
pub beside_wide : {ws ws' : List ℕ} {a b c d : ℕ} → Beside ws ws' a b → c ≤ a → b ≤ d → Beside ws ws' c d
beside_wide w h l = record { long = w.long; below = λ k m. w.below k (omega arith); above = λ k m. w.above k (omega arith) }

-- two words
beside_two : (ws : List ℕ) (i v w : ℕ) → Beside ws (set (set ws i v) (i + 1) w) i (i + 2)
beside_two ws i v w = record {
  long = length-set (set ws i v) (i + 1) w ∙ length-set ws i v;
  below = λ k m. get_or-set_other (set ws i v) (i + 1) k w 0 (λ e. omega arith) ∙ get_or-set_other ws i k v 0 (λ e. omega arith);
  above = λ k m. get_or-set_other (set ws i v) (i + 1) k w 0 (λ e. omega arith) ∙ get_or-set_other ws i k v 0 (λ e. omega arith);
}

-- what stands there is stored again
pub set_same : {A : Type 0} (xs : List A) (i : ℕ) {x : A} → at xs i ≡ is x → set xs i x ≡ xs
set_same [] i e = missing e
set_same (y ∷ xs) zero e = rw (is_inj e)
set_same (y ∷ xs) (suc i) e = ap (y ∷◌) (set_same xs i e)

-- ---- frames

module _ {p : Program Plain} (sound : Sound concurrent p) where
  -- a procedure of a labelled program has at most 16 locals
  pub few_locals_lem : (m : ℕ) {q : Proc ℕ} → at (labelled p).procs m ≡ is q → (q.params ≤ q.locals) × (q.locals ≤ max_locals)
  few_locals_lem m {q} e =
      let w : Labelled p.procs m q = labelled_at p.procs 1 m e in
      let r : ProcSound concurrent p m w.plain = proc_sound sound m w.plain w.found in
      omega (arith, w.params, w.locals, r.params, r.locals)

  -- a frame's locals fit its words
  pub frame_small : {ls : List ℕ} {l k : ℕ} {f : Frame ℕ} → FrameAt p ls l k f → length f.env ≤ max_locals
  frame_small {f = f} h =
      let q = remains_proc h.remains in
      omega (arith, h.full q.0 q.1, few_locals_lem f.proc q.1)

  -- a frame whose words are the same
  frame_kept : {ls ls' : List ℕ} {l k : ℕ} {f : Frame ℕ} → length ls' ≡ length ls
      → ((i : ℕ) → frame_words * k ≤ i → i < frame_words * k + frame_words → get_or ls' i 0 ≡ get_or ls i 0) → FrameAt p ls l k f → FrameAt p ls' l k f
  frame_kept {k = k} {f} long same h = record {
    remains = h.remains;
    label = h.label;
    framed = record {
      room = omega (arith, long, h.framed.room);
      each = λ x m. rw (same (frame_words * k + x) (omega arith) (omega (arith, frame_small h))) (h.framed.each x m);
    };
    full = h.full;
  }

  -- frames whose labels and words are the same
  frames_kept : (labels labels' ls ls' : List ℕ) (k : ℕ) (s : Stack ℕ) → length ls' ≡ length ls
      → ((j : ℕ) → k ≤ j → j < k + length s → get_or labels' j 0 ≡ get_or labels j 0)
      → ((i : ℕ) → frame_words * k ≤ i → i < frame_words * (k + length s) → get_or ls' i 0 ≡ get_or ls i 0)
      → FramesAt p labels ls k s → FramesAt p labels' ls' k s
  frames_kept labels labels' ls ls' k [] long same words h = tt
  frames_kept labels labels' ls ls' k (f ∷ s) long same words h = (
    rw (same (k + length s) (omega arith) (omega arith)) (frame_kept long (λ i a b. words i (omega arith) (omega arith)) h.0),
    frames_kept labels labels' ls ls' k s long (λ j a b. same j a (omega arith)) (λ i a b. words i a (omega arith)) h.1,
  )

  module _ {labels labels' ls ls' : List ℕ} {a b c d : ℕ} (L : Beside labels labels' a b) (W : Beside ls ls' c d) (k : ℕ) (s : Stack ℕ) where
    -- stores above them
    pub frames_below : k + length s ≤ a → frame_words * (k + length s) ≤ c → FramesAt p labels ls k s → FramesAt p labels' ls' k s
    frames_below h i = frames_kept labels labels' ls ls' k s W.long (λ j x y. L.below j (omega arith)) (λ j x y. W.below j (omega arith))

    -- stores below them
    pub frames_above : b ≤ k → d ≤ frame_words * k → FramesAt p labels ls k s → FramesAt p labels' ls' k s
    frames_above h i = frames_kept labels labels' ls ls' k s W.long (λ j x y. L.above j (omega arith)) (λ j x y. W.above j (omega arith))

  -- ---- threads

  module _ {labels labels' depths depths' ls ls' : List ℕ} {ts : List (Stack ℕ)} {t : ℕ} where
    -- thread t has another stack: the others stay
    pub threaded_set : {s : Stack ℕ} (s' : Stack ℕ) → Threaded p labels depths ls ts → at ts t ≡ is s
        → Beside labels labels' (thread_frames * t) (thread_frames * t + thread_frames) → Beside depths depths' t (t + 1)
        → Beside ls ls' (frame_words * (thread_frames * t)) (frame_words * (thread_frames * t + thread_frames))
        → ThreadAt p labels' depths' ls' t s' → Threaded p labels' depths' ls' (set ts t s')
    threaded_set {s} s' h e L D W new = record {
      count = length-set ts t s' ∙ h.count;
      labels_long = L.long ∙ h.labels_long;
      depths_long = D.long ∙ h.depths_long;
      each = λ u r q. by_test (eqb u t)
          (λ o.
          let same : u ≡ t = eqb-true u t o in
          let stack : s' ≡ r = is_inj (sym (at_set_same ts t s' (at_below ts t e)) ∙ ap (at (set ts t s')) (sym same) ∙ q) in
          rw (same, ← stack) new)
          (λ o. kept u r (eqb-false u t o) (h.each u r (sym (at_set_other ts t u s' (eqb-false u t o)) ∙ q)));
    }
      where
        kept : (u : ℕ) (r : Stack ℕ) → (u ≡ t → ⊥) → ThreadAt p labels depths ls u r → ThreadAt p labels' depths' ls' u r
        kept u r other g =
            let few : length r ≤ most_frames = few_frames sound labels ls (thread_frames * u) r g.frames g.linked in
            by_test (ltb u t)
            (λ o.
            let low : u < t = ltb-true u t o in
            record {
              depth = D.below u low ∙ g.depth;
              frames = frames_below L W (thread_frames * u) r (omega arith) (omega arith) g.frames;
              linked = g.linked;
            })
            (λ o.
            let high : t ≤ u = ltb-false u t o in
            let above : t + 1 ≤ u = omega arith in
            record {
              depth = D.above u above ∙ g.depth;
              frames = frames_above L W (thread_frames * u) r (omega arith) (omega arith) g.frames;
              linked = g.linked;
            })

  -- thread t runs the frame f, above those of s
  module _ {labels depths ls : List ℕ} {ts : List (Stack ℕ)} (t : ℕ) (f : Frame ℕ) (s : Stack ℕ) (h : Threaded p labels depths ls ts)
      (e : at ts t ≡ is (f ∷ s)) where
    -- the number of its top frame
    abbrev top : ℕ
    top = thread_frames * t + length s

    -- its stack
    own : ThreadAt p labels depths ls t (f ∷ s)
    own = h.each t (f ∷ s) e

    -- it has few
    few : length (f ∷ s) ≤ most_frames
    few = few_frames sound labels ls (thread_frames * t) (f ∷ s) own.frames own.linked

    -- the thread is one of all threads
    pub thread_there : t < most_threads
    thread_there = omega (arith, at_below ts t e, h.count, sound.threads.high)

    -- the frame is one of all frames
    pub top_there : top < all_frames
    top_there = omega (arith, thread_there, few)

    -- it goes on at label l
    pub threaded_on : {labels' ls' : List ℕ} (f' : Frame ℕ) (l : ℕ) → f'.proc ≡ f.proc → labels' ≡ set labels top l
        → Beside ls ls' (frame_words * top) (frame_words * (top + 2)) → FrameAt p ls' l top f' → Threaded p labels' depths ls' (set ts t (f' ∷ s))
    threaded_on {labels'} {ls'} f' l same L W new =
        let B : Beside labels labels' top (top + 1) = rw L (beside_set labels top l) in
        threaded_set (f' ∷ s) h e (beside_wide B (omega arith) (omega (arith, few))) beside_same
        (beside_wide W (omega arith) (omega (arith, few))) (record {
          depth = own.depth;
          frames = (
            rw (L, get_or-set_same labels top l 0 (omega (arith, top_there, h.labels_long))) new,
            frames_below B W (thread_frames * t) s (omega arith) (omega arith) own.frames.1,
          );
          linked = rw same own.linked;
        })

    -- it returns
    pub threaded_back : {depths' : List ℕ} → depths' ≡ set depths t (length s) → Threaded p labels depths' ls (set ts t s)
    threaded_back {depths'} D =
        threaded_set s h e beside_same (rw D (beside_set depths t (length s))) beside_same (record {
          depth = rw D (get_or-set_same depths t (length s) 0 (omega (arith, thread_there, h.depths_long)));
          frames = own.frames.1;
          linked = own.linked.1;
        })

    -- it goes on at label l, and calls the frame g, which begins at label b
    pub threaded_call : {labels' depths' ls' : List ℕ} (f' g : Frame ℕ) (l b : ℕ) → f'.proc ≡ f.proc
        → In g.proc (callees_of (labelled p).procs f.proc) → labels' ≡ set (set labels top l) (top + 1) b
        → depths' ≡ set depths t (length s + 2)
        → Beside ls ls' (frame_words * top) (frame_words * (top + 2)) → FrameAt p ls' l top f' → FrameAt p ls' b (top + 1) g
        → Threaded p labels' depths' ls' (set ts t (g ∷ f' ∷ s))
    threaded_call {labels'} {depths'} {ls'} f' g l b same i L D W mine new =
        let next : thread_frames * t + length (f' ∷ s) ≡ top + 1 = omega arith in
        let B : Beside labels labels' top (top + 2) = rw L (beside_two labels top l b) in
        let above : get_or labels' (top + 1) 0 ≡ b =
        rw L (get_or-set_same (set labels top l) (top + 1) b 0 (omega (arith, length-set labels top l, h.labels_long, thread_there, few)))
        in
        let below : get_or labels' top 0 ≡ l =
        ap (λ (ls : List ℕ). get_or ls top 0) L ∙ get_or-set_other (set labels top l) (top + 1) top b 0 (λ q. omega arith)
        ∙ get_or-set_same labels top l 0 (omega (arith, top_there, h.labels_long))
        in
        threaded_set (g ∷ f' ∷ s) h e (beside_wide B (omega arith) (omega (arith, few))) (rw D (beside_set depths t (length s + 2)))
        (beside_wide W (omega arith) (omega (arith, few))) (record {
          depth =
              ap (λ (ds : List ℕ). get_or ds t 0) D ∙ get_or-set_same depths t (length s + 2) 0 (omega (arith, thread_there, h.depths_long))
              ∙ omega arith;
          frames = (rw (next, above) new, (rw below mine, frames_below B W (thread_frames * t) s (omega arith) (omega arith) own.frames.1));
          linked = (rw same i, (rw same own.linked.0, own.linked.1));
        })

    -- it blocks: words above it may be others
    pub threaded_still : {ls' : List ℕ} → Beside ls ls' (frame_words * top) (frame_words * (top + 2)) → FrameAt p ls' (get_or labels top 0) top f
        → Threaded p labels depths ls' ts
    threaded_still {ls'} W mine =
        subst (Threaded p labels depths ls') (set_same ts t e)
        (threaded_set (f ∷ s) h e beside_same beside_same (beside_wide W (omega arith) (omega (arith, few))) (record {
          depth = own.depth;
          frames = (
            mine,
            frames_below (beside_same {ws = labels} {a = top} {b = top}) W (thread_frames * t) s (omega arith) (omega arith) own.frames.1,
          );
          linked = own.linked;
        }))
