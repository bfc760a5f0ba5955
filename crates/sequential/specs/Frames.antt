-- The stack of frames at work: each frame has its words among the locals, a position where its code goes on, and a word of its own.
use Rattle.std.specs.Prelude.{ℕ, ◌+◌, ◌*◌, ◌/◌, ◌%◌, ◌≡◌, List, [], ◌∷◌, length, get_or}
use Rattle.value.specs.Maybe.{is}
use Rattle.value.specs.Lists.{at}
use Rattle.format.specs.Syntax.{Proc, Plain}
use Rattle.format.proofs.Laws.Calls.{Calls}
use Rattle.semantics.specs.Step.{Frame, Stack}
use Rattle.engine.specs.Work.{frame_words, Framed}
use Rattle.jumps.specs.Jumps.{positions, Settled}

-- a frame above d others: its locals are frame d of the words, and its code goes on at k
pub record FrameAt (ps : List (Proc Plain)) (ls : List ℕ) (d k : ℕ) (f : Frame Plain) : Type 0 where
  pub proc : Proc Plain
  pub found : at ps f.proc ≡ is proc
  pub long : length f.env ≡ proc.locals
  pub framed : Framed ls (frame_words * d) f.env
  pub code : Settled ps f.proc k f.code

-- the frame below calls procedure m
abbrev pub Called : List (Proc Plain) → ℕ → Stack Plain → Type 0
Called ps m [] = Unit {0}
Called ps m (g ∷ s) = Calls ps g.proc m

-- the word of a frame of procedure m, where the frame below goes on at k
abbrev pub word_of : ℕ → ℕ → ℕ
word_of k m = k + positions * m

-- where the frame below goes on
abbrev pub place_in : ℕ → ℕ
place_in w = w % positions

-- the number of the procedure
abbrev pub procedure_in : ℕ → ℕ
procedure_in w = w / positions

-- the frames of a stack: the first goes on at k; `bs` has a word for each, by the number of frames below it
pub data Stacked (ps : List (Proc Plain)) (ls bs : List ℕ) : ℕ → Stack Plain → Type 0 where
  none : {k : ℕ} → Stacked ps ls bs k []
  more : {k : ℕ} {f : Frame Plain} {s : Stack Plain} → FrameAt ps ls (length s) k f → Called ps f.proc s
      → procedure_in (get_or bs (length s) 0) ≡ f.proc → Stacked ps ls bs (place_in (get_or bs (length s) 0)) s → Stacked ps ls bs k (f ∷ s)
