-- A quick step of the sequential machine at work: the step that it stands for, and what carrying it out leaves.
use Rattle.std.specs.Prelude.{ℕ, ◌+◌, ◌^◌, ◌≤◌, ◌<◌, ◌≡◌, List, Bool, true, length}
use Rattle.value.specs.Maybe.{is}
use Rattle.value.specs.declared.Value.{Value}
use Rattle.decide.specs.declared.step.Step as D
use Rattle.decide.specs.declared.step.Step.TheVariants as S
use Rattle.quick.specs.declared.turn.Quick.{Quick}
use Rattle.quick.specs.declared.turn.Quick.TheVariants.{Assign, Read, Write, Holds, Fails, Call}
use Rattle.sequential.specs.declared.machine.State.{State}
use Rattle.engine.specs.Words.{held}
use Rattle.engine.specs.Work.{local_words, cell_words}
use Rattle.jumps.specs.Jumps.{positions}
use Rattle.sequential.specs.Sequential.{most_frames, event_in, Recorded, moved_to, Due, CarriesOut}

-- an event of the value that a word holds was written, or not
pub record RecordedWord (h : ℕ) (bs es : List ℕ) (s : State) (writes : Bool) (l i w : ℕ) (es' : List ℕ) (n : ℕ) : Type 0 where
  pub recorded : (v : Value) → held w ≡ is v → Recorded h es s.events (event_in bs s writes l i v) es' n

-- the step that a quick one stands for, its value the one that the word holds; tests that fail are several
pub data Means : Quick → D.Step → Type 0 where
  assigns : {x w n : ℕ} {v : Value} → held w ≡ is v → Means (Assign x w n) (S.Assign x v n)
  reads : {x l i w n : ℕ} {v : Value} → held w ≡ is v → Means (Read x l i w n) (S.Read x l i v n)
  writes : {l i k w n : ℕ} {v : Value} → held w ≡ is v → Means (Write l i k w n) (S.Write l i k v n)
  holds : {n : ℕ} → Means (Holds n) (S.Test true n)
  calls : {m n : ℕ} → Means (Call m n) (S.Call m n)

-- the step that it stands for is due; of tests that fail nothing is asked
pub data Asked (t : List ℕ) (records : ℕ) (js ls bs cs es : List ℕ) (s : State) : Quick → Type 0 where
  one : {q : Quick} (x : D.Step) → Means q x → Due t records js ls bs cs es s x → Asked t records js ls bs cs es s q
  several : {k n : ℕ} → Asked t records js ls bs cs es s (Fails k n)

pub record DueWords (t : List ℕ) (records : ℕ) (js ls bs cs es : List ℕ) (s : State) (q : Quick) : Type 0 where
  pub asked : Asked t records js ls bs cs es s q
  pub some : 1 ≤ s.depth
  pub few : s.depth ≤ most_frames
  pub small : length t ≤ positions
  pub long : length ls ≡ local_words
  pub full : length cs ≡ cell_words
  pub counted : s.events + 1 < 2 ^ 64

-- it was carried out; tests that fail change only the position
pub record CarriesWords (t : List ℕ) (records : ℕ) (js : List ℕ) (h : ℕ) (ls bs cs es : List ℕ) (s : State) (q : Quick) (ls' bs' cs' es' : List ℕ)
    (s' : State) : Type 0 where
  pub carried : (x : D.Step) → Means q x → CarriesOut t records js h ls bs cs es s x ls' bs' cs' es' s'
  pub passed : (k n : ℕ) → q ≡ Fails k n → (ls' ≡ ls) × (bs' ≡ bs) × (cs' ≡ cs) × (es' ≡ es) × (s' ≡ moved_to s k s.depth s.events)
