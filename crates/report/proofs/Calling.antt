-- From an accepted table to the run, and from the run to the answer.
use Prim.Native.Nat.{ℕ, ◌+◌, ◌*◌, ◌-◌, ◌^◌, ◌≤◌, ◌<◌}
use native.Mathlib.Omega.{arith}
use mathlib.Core.Path.{◌≡◌, sym, ap, subst, ◌∙◌}
use mathlib.Core.List.{List, map}
use lib.ListN.{length, get_or, replicate, length-replicate}
use Rattle.value.specs.Lists.{sum, over}
use Rattle.value.specs.Values.{cell_size}
use Rattle.value.proofs.Laws.Lists.{at_below, at_get_d}
use Rattle.basics.specs.Places.{number_at}
use Rattle.format.specs.Syntax.{Program, Plain}
use Rattle.format.specs.Encode.{record_size, trailer_size}
use Rattle.format.proofs.Laws.Procs.{main_at}
use Rattle.format.proofs.Laws.TablePlaces.{records_at}
use Rattle.semantics.specs.Memory.{Memory}
use Rattle.semantics.specs.Threads as P
use Rattle.semantics.specs.Buffers.{cells}
use Rattle.engine.specs.Ends.{end_of}
use Rattle.semantics.specs.Calls.{end_number, reason_of, Outcome, result, unlabelled, plain_outcome}
use Rattle.engine.specs.Work.{frame_words, thread_words, program_words, flat, Bases, sizes_at, Starts, Writes}
use Rattle.engine.specs.Laws.Holding.{length_flat, holds_fresh}
use Rattle.atomic.specs.Threaded.{thread_frames}
use Rattle.concurrent.specs.Concurrent.{Entries, Accepted}
use Rattle.concurrent.proofs.ConcurrentCall.{accepted_mains, main_read, mains_at, sizes_at_lem, zeros}
use Rattle.concurrent.specs.declared.machine.Ran.{Ran}
use Rattle.report.specs.Running.{Beginning, Begins, Starting, RanAs, Runs, Outcomes}
use Rattle.report.proofs.Starting.{first_labels, starts_threaded, starts_rowed}

-- ---- an accepted table

-- where its mains, and its records, stand
abbrev mains_in : List ℕ → ℕ → ℕ
mains_in t T = length t - trailer_size - 2 * T

abbrev records_in : List ℕ → ℕ → ℕ → ℕ → ℕ
records_in t P M T = length t - trailer_size - 2 * T - 2 * M - record_size * P

module _ {t : List ℕ} {P M T c : ℕ} (a : Accepted t P M T c) where
  -- its records
  records_at_lem : records_in t P M T ≡ records_at a.program
  records_at_lem = omega (arith, mains_at a, a.procs, a.places)

  -- each main has one
  pub accepted_beginning : Beginning t (mains_in t T) (records_in t P M T) T
  accepted_beginning = record {
    mains = accepted_mains a;
    inside = λ k l.
        let there = at_get_d a.program.mains k 0 (omega (arith, a.threads)) in
        let found = main_at a.sound k (get_or a.program.mains k 0) there in
        let low : get_or a.program.mains k 0 < length a.program.procs =
        at_below a.program.procs (get_or a.program.mains k 0) found.1
        in
        inner (number_at 2 t (mains_in t T + 2 * k)) (rw (main_read a k (get_or a.program.mains k 0) there, a.procs) low);
  }
    where
      inner : (m : ℕ) → m < P → records_in t P M T + record_size * m + record_size ≤ length t
      inner m l = omega (arith, a.room)

-- the arrays before the first step
pub accepted_starting : {t : List ℕ} {P M T c n : ℕ} {ts ss depths heights rows : List ℕ} → Accepted t P M T c → Entries T ts
    → Starts (sizes_at t (length t - trailer_size - 2 * T - 2 * M) M) ss n
    → Begins t (mains_in t T) (records_in t P M T) T depths heights rows
    → Starting t (records_in t P M T) T ts ss depths heights rows (replicate thread_words 0) (replicate program_words (2 ^ 32))
accepted_starting {t} {P} {M} {T} {ss = ss} {depths} {heights} {rows} a es S B =
    let C : Begins t (mains_in t T) (records_in t P M T) (length a.program.mains) depths heights rows =
    subst (λ (n : ℕ). Begins t (mains_in t T) (records_in t P M T) n depths heights rows) a.threads B
    in
    record {
      loaded = record {
        program = a.program;
        same = a.same;
        sound = a.sound;
        heads = records_at_lem a;
        starts = subst (λ (ns : List ℕ). Bases ns ss) (sizes_at_lem a) S.bases;
      };
      count = a.threads;
      entries = es;
      labels = first_labels a.program;
      threads =
          starts_threaded a.sound C (λ k x l m. zeros thread_words (frame_words * (thread_frames * k) + x)) (length-replicate {A = ℕ} thread_words 0);
      rowed = starts_rowed a.sound a.same (records_at_lem a) (main_read a) C;
      long = length-replicate {A = ℕ} thread_words 0;
      cells = holds_fresh a.program.sizes {n = program_words} (omega (arith, a.sound.cells));
    }

-- ---- from the run to the answer

-- no more entries were taken than there are
pub run_taken : {t : List ℕ} {records T : ℕ} {ts ss depths heights rows ls cs lent cs' es : List ℕ} {r : Ran}
    → Starting t records T ts ss depths heights rows ls cs → Runs t records T ts ss depths heights rows ls cs lent cs' es r → r.taken ≤ length ts
run_taken q R = (R.ran q).taken

-- the answer, the cells and the events of a run
outcome_of : {p : Program Plain} {c : ℕ} {ts cs es ms os es' : List ℕ} {r : Ran} → c ≡ sum p.sizes → cell_size * c ≤ length cs
    → RanAs p ts es ms es' r → Writes ms c cs os
    → ◌≡◌ {A = Outcome} (record {
      answer = record { number = 0; end = end_number (end_of r.end); steps = r.taken; unused = length ts - r.taken; events = r.events; reason = reason_of (end_of r.end) };
      cells = os;
      events = es';
    }) (plain_outcome ts cs es p)
outcome_of {p} {c} {ts} {cs} {es} {os = os} {es'} {r} size room z W =
    let η : Memory = z.state.memory in
    let all : c ≡ length (flat η) = size ∙ ap sum (sym z.sizes) ∙ sym (length_flat η) in
    let wrote : os ≡ over (cells η) cs = W.written η z.memory all room in
    rw (z.end, z.events.count, wrote, z.events.bytes)
    (sym (ap (λ (ran : P.Ran). result ran.how ran.steps ran.unused ran.state.memory (map unlabelled ran.events) cs es) z.same))

-- of the whole call
pub run_outcome : {t : List ℕ} {P M T c n : ℕ} {ts ss depths heights rows cs es ms os es' : List ℕ} {r : Ran} {u v : ℕ}
    → Starts (sizes_at t (length t - trailer_size - 2 * T - 2 * M) M) ss n
    → Begins t (mains_in t T) (records_in t P M T) T depths heights rows
    → Runs t (records_in t P M T) T ts ss depths heights rows (replicate thread_words 0) (replicate program_words (2 ^ 32)) es ms es' r
    → Writes ms c cs os → u ≡ end_number (end_of r.end) → v ≡ reason_of (end_of r.end)
    → Outcomes t P M T c ts cs es (record { number = 0; end = u; steps = r.taken; unused = length ts - r.taken; events = r.events; reason = v }) os es'
unfolding accepted_starting
run_outcome S B R O u v = rw (u, v) (record { same = λ a e room. outcome_of a.cells room (R.ran (accepted_starting a e S B)) O })
