-- What the concurrent machine keeps at work: for each thread a stack of frames, each a label and a row of words for its locals.
use Rattle.std.specs.Prelude.{ℕ, ◌+◌, ◌*◌, ◌≡◌, List, [], ◌∷◌, length, get_or}
use Rattle.value.specs.Maybe.{is}
use Rattle.value.specs.Lists.{at}
use Rattle.value.proofs.Laws.Lists.{In}
use Rattle.format.specs.Syntax.{Proc, Program, Plain, concurrent}
use Rattle.format.specs.Labels.{labelled, first, ends_of}
use Rattle.format.specs.Rules.{limits, callees_of}
pub use Rattle.basics.specs.Sizes.{thread_frames, most_threads, all_frames}
use Rattle.labels.specs.Laws.Spots.{Remains}
use Rattle.semantics.specs.Step.{Frame, Stack}
use Rattle.engine.specs.Work.{frame_words, Framed}

-- "P not 1..16": no procedure runs twice in a thread, so a thread has at most so many frames
abbrev pub most_frames : ℕ
most_frames = (limits concurrent).procs

module _ (p : Program Plain) where
  -- a frame goes on at label l, and its locals are the words of frame k
  pub record FrameAt (ls : List ℕ) (l k : ℕ) (f : Frame ℕ) : Type 0 where
    pub remains : Remains (labelled p).procs f.proc f.code
    pub label : l ≡ first (ends_of p f.proc) f.code
    pub framed : Framed ls (frame_words * k) f.env
    pub full : (q : Proc ℕ) → at (labelled p).procs f.proc ≡ is q → length f.env ≡ q.locals

  -- the frames of a stack, the lowest at number k
  abbrev pub FramesAt : List ℕ → List ℕ → ℕ → Stack ℕ → Type 0
  FramesAt labels ls k [] = Unit {0}
  FramesAt labels ls k (f ∷ s) = FrameAt ls (get_or labels (k + length s) 0) (k + length s) f × FramesAt labels ls k s

  -- procedure m is called by the frame below
  abbrev pub Link : ℕ → Stack ℕ → Type 0
  Link m [] = Unit {0}
  Link m (g ∷ s) = In m (callees_of (labelled p).procs g.proc)

  -- each frame is called by the frame below it
  abbrev pub Linked : Stack ℕ → Type 0
  Linked [] = Unit {0}
  Linked (f ∷ s) = Link f.proc s × Linked s

  -- thread t has the stack s
  pub record ThreadAt (labels depths ls : List ℕ) (t : ℕ) (s : Stack ℕ) : Type 0 where
    pub depth : get_or depths t 0 ≡ length s
    pub frames : FramesAt labels ls (thread_frames * t) s
    pub linked : Linked s

  -- each thread has its stack
  pub record Threaded (labels depths ls : List ℕ) (ts : List (Stack ℕ)) : Type 0 where
    pub count : length ts ≡ length p.mains
    pub labels_long : length labels ≡ all_frames
    pub depths_long : length depths ≡ most_threads
    pub each : (t : ℕ) (s : Stack ℕ) → at ts t ≡ is s → ThreadAt labels depths ls t s
