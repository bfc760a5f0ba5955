-- A table that may be run, way by way.
use Prim.Native.Nat.{ℕ, ◌*◌, ◌≤◌, ◌<◌}
use mathlib.Core.Path.{◌≡◌, refl, sym, ap, ◌∙◌}
use mathlib.Core.List.{List}
use mathlib.Core.Bool.{Bool, true, false}
use lib.ListN.{length}
use Rattle.std.specs.Prelude.{Result, Ok, Err}
use Rattle.value.specs.Values.{cell_size}
use Rattle.value.proofs.Laws.Bytes.{Bytes}
use Rattle.basics.specs.declared.refusals.Refusal.{Refusal}
use Rattle.basics.specs.declared.refusals.Refusal.TheVariants.{Schedule, NoCells}
use Rattle.format.specs.Syntax.{concurrent, sequential}
use Rattle.format.specs.Calls.{read_call}
use Rattle.semantics.specs.declared.RunAnswer.{RunAnswer}
use Rattle.semantics.specs.Calls.{max_entries}
use Rattle.reader.specs.declared.verdict.Counts.{Counts}
use Rattle.reader.specs.Answers.{answer_of as read_as}
use Rattle.concurrent.specs.Concurrent.{SaysScheduled, Accepted}
use Rattle.concurrent.proofs.ConcurrentCall as C
use Rattle.sequential.specs.Sequential.{Accepted as Accepted', Outcomes as Outcomes'}
use Rattle.sequential.proofs.Calling as S
use Rattle.machines.specs.Running.{Runnable, Ran}

-- ---- a concurrent table

module _ (t : List ℕ) (h : Bytes t) (ts cs : List ℕ) {x : Result Counts Refusal} (q : read_as x ≡ read_call concurrent t) where
  -- as it came out
  told : {v : Result Counts Refusal} → x ≡ v → read_as v ≡ read_call concurrent t
  told e = ap read_as (sym e) ∙ q

  -- 1 to 8
  pub unread : {why : Refusal} → x ≡ Err why → Runnable t ts cs (Err why)
  unread {why} e = record {
    may = λ c f. cc;
    refused = λ w f go es.
        let same : w ≡ why = cc in
        rw same (C.call_refused t h ts cs es go (told e) (C.numbered why) refl);
  }

  module _ {r : Counts} (e : x ≡ Ok r) where
    -- it is accepted
    pub run_accepted : Accepted t r.procedures r.locations r.threads r.cells
    run_accepted = C.read_accepted t h (told e) refl

    module _ {b : Bool} (s : SaysScheduled r.threads ts b) where
      -- 11
      pub unscheduled : b ≡ false → Runnable t ts cs (Err Schedule)
      unscheduled n = record {
        may = λ c f. cc;
        refused = λ w f go es.
            let same : w ≡ Schedule = cc in
            rw same (C.call_unscheduled t h ts cs es go (told e) refl s n refl);
      }

      module _ (k : b ≡ true) where
        -- 12
        pub short : length cs < cell_size * r.cells → Runnable t ts cs (Err NoCells)
        short m = record {
          may = λ c f. cc;
          refused = λ w f go es.
              let same : w ≡ NoCells = cc in
              rw same (C.call_short t h ts cs es go (told e) refl s k m refl);
        }

        -- it may be run
        pub runs : cell_size * r.cells ≤ length cs → Runnable t ts cs (Ok r)
        runs m = record {
          may = λ c f.
              let same : c ≡ r = cc in
              rw same (record {
                accepted = run_accepted;
                entries = s.every k;
                room = m;
                ran = λ go es o O. C.call_ran t h ts cs es go (told e) refl s k m O;
              });
          refused = λ w f. cc;
        }

-- ---- a sequential one

module _ (t : List ℕ) (h : Bytes t) (n l : ℕ) (ts cs es : List ℕ) {x : Result Counts Refusal} (q : read_as x ≡ read_call sequential t) where
  -- as it came out
  told' : {v : Result Counts Refusal} → x ≡ v → read_as v ≡ read_call sequential t
  told' e = ap read_as (sym e) ∙ q

  -- 1 to 8
  pub sequential_unread : {why : Refusal} → x ≡ Err why → Ran n l t ts cs es cs es (Err why)
  sequential_unread {why} e = record { same = S.call_refused t h n l ts cs es (told' e) (C.numbered why) refl }

  module _ {r : Counts} (e : x ≡ Ok r) where
    -- it is accepted
    pub sequential_accepted : Accepted' t r.procedures r.locations r.cells
    sequential_accepted = S.read_accepted t h (told' e) refl

    -- 11
    pub sequential_long : max_entries < length ts → Ran n l t ts cs es cs es (Err Schedule)
    sequential_long m = record { same = S.call_long t h n l ts cs es (told' e) refl m refl }

    -- 12
    pub sequential_short : length ts ≤ max_entries → length cs < cell_size * r.cells → Ran n l t ts cs es cs es (Err NoCells)
    sequential_short k m = record { same = S.call_short t h n l ts cs es (told' e) refl k m refl }

    -- it was run
    pub sequential_ran : {a : RunAnswer} {cs' es' : List ℕ} → length ts ≤ max_entries → cell_size * r.cells ≤ length cs
        → Outcomes' t r.procedures r.locations r.cells ts n l cs es a cs' es' → Ran n l t ts cs es cs' es' (Ok a)
    sequential_ran k m O = record { same = S.call_ran t h n l ts cs es (told' e) refl k m O }
