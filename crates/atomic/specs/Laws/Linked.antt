-- A stack is a chain of calls: each frame's procedure is called by the procedure below it. With rule 7 no procedure runs twice in it,
-- so that it has no more frames than there are procedures.
use Rattle.std.specs.Prelude.{ℕ, suc, ◌+◌, ◌≤◌, ◌<◌, ◌≡◌, refl, List, [], ◌∷◌, map, true, false, eqb, length}
use Rattle.std.proofs.Common.{arith, sym, ap, ◌∙◌, eqb-true, eq-eqb}
use Rattle.std.proofs.lemmas.List.{length-map}
use Rattle.value.specs.Maybe.{is, either}
use Rattle.value.specs.Lists.{at}
use Rattle.value.proofs.Laws.Tests.{either_passed, either_failed, never, by_test}
use Rattle.value.proofs.Laws.Lists.{In, Each, member, at_below}
use Rattle.format.specs.Syntax.{Proc, Program, Plain, concurrent}
use Rattle.format.specs.Labels.{count, labels, labelled}
use Rattle.format.specs.Rules.{callees_of}
use Rattle.format.proofs.Laws.Calls.{Reaches, direct, onward, Distinct, distinct_below}
use Rattle.format.proofs.Laws.Labelled.{reaches_labels}
use Rattle.labels.specs.Laws.Spots.{Remains, none, some}
use Rattle.format.proofs.Laws.Sound.{Sound}
use Rattle.semantics.specs.Step.{Frame, Stack, runs}
use Rattle.atomic.specs.Threaded.{most_frames, FramesAt, Link, Linked}

-- one call more at the end
reach_on : {ps : List (Proc ℕ)} {m k q : ℕ} → Reaches ps m k → In q (callees_of ps k) → Reaches ps m q
reach_on (direct h) i = onward h (direct i)
reach_on (onward h r) i = onward h (reach_on r i)

-- as many procedures
pub length_labels : {A : Type 0} (ps : List (Proc A)) (l : ℕ) → length (labels l ps) ≡ length ps
length_labels [] l = refl
length_labels (p ∷ ps) l = ap suc (length_labels ps (l + suc (count p.body)))

-- the procedure of code that remains is there
pub remains_proc : {ps : List (Proc ℕ)} {m : ℕ} {c : _} → Remains ps m c → (q : Proc ℕ) × (at ps m ≡ is q)
remains_proc (none q e) = (q, e)
remains_proc (some k a j d r c) = (c.proc, c.found)

module _ {p : Program Plain} (sound : Sound concurrent p) where
  -- a procedure below the top reaches the top's
  reach_top : (m : ℕ) (s : Stack ℕ) (k : ℕ) → Link p m s → Linked p s → runs k s ≡ true → Reaches (labelled p).procs k m
  reach_top m [] k l c e = absurd (never e)
  reach_top m (g ∷ s) k l c e =
      either_passed (eqb k g.proc) (runs k s) e
      (λ q. rw (eqb-true k g.proc q) (direct l))
      (λ q. reach_on (reach_top g.proc s k c.0 c.1 q) l)

  -- so the procedure of a frame runs in no frame below
  pub alone : (m : ℕ) (s : Stack ℕ) → Link p m s → Linked p s → runs m s ≡ false
  alone m s l c = by_test (runs m s) (λ e. absurd (sound.calls m (reaches_labels p.procs 1 (reach_top m s m l c e)))) (λ e. e)

  -- a procedure that the top frame calls runs in no frame
  pub no_cycle_lem : (m q : ℕ) (f : Frame ℕ) (s : Stack ℕ) → f.proc ≡ m → In q (callees_of (labelled p).procs m) → Linked p (f ∷ s)
      → either (eqb q m) (runs q s) ≡ false
  no_cycle_lem m q f s e i c = rw (← e) (alone q (f ∷ s) (rw e i) c)

  -- the procedures of a stack
  abbrev procs_of : Stack ℕ → List ℕ
  procs_of s = map (λ (f : Frame ℕ). f.proc) s

  -- a procedure that runs in no frame is not among them
  not_member : (m : ℕ) (s : Stack ℕ) → runs m s ≡ false → member m (procs_of s) ≡ false
  not_member m [] e = refl
  not_member m (f ∷ s) e =
      let no : (eqb m f.proc ≡ false) × (runs m s ≡ false) = either_failed (eqb m f.proc) (runs m s) e in
      by_test (eqb f.proc m)
      (λ q. absurd (never (sym no.0 ∙ eq-eqb m f.proc (sym (eqb-true f.proc m q)))))
      (λ q. rw q (not_member m s no.1))

  -- they are distinct
  distinct : (s : Stack ℕ) → Linked p s → Distinct (procs_of s)
  distinct [] c = tt
  distinct (f ∷ s) c = (not_member f.proc s (alone f.proc s c.0 c.1), distinct s c.1)

  -- each of them is there
  there : (labels ls : List ℕ) (k : ℕ) (s : Stack ℕ) → FramesAt p labels ls k s → Each (λ m. m < length (labelled p).procs) (procs_of s)
  there labels ls k [] h = tt
  there labels ls k (f ∷ s) h = (at_below (labelled p).procs f.proc (remains_proc h.0.remains).1, there labels ls k s h.1)

  -- so there are no more frames than procedures
  pub few_frames : (labels ls : List ℕ) (k : ℕ) (s : Stack ℕ) → FramesAt p labels ls k s → Linked p s → length s ≤ most_frames
  few_frames labels ls k s h c =
      let long : length (procs_of s) ≡ length s = length-map s (λ (f : Frame ℕ). f.proc) in
      let few = distinct_below (length (labelled p).procs) (procs_of s) (distinct s c) (there labels ls k s h) in
      omega (arith, length_labels p.procs 1, sound.procs.high)
