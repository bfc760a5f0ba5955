-- Demand 3, of every accepted table.
use Rattle.std.specs.Prelude.{ℕ, ◌≡◌, refl, ◌↔◌, List, take}
use Rattle.std.proofs.Common.{arith, sym, ap, ◌∙◌}
use Rattle.value.specs.Maybe.{is}
use Rattle.value.specs.Lists.{at}
use Rattle.value.specs.declared.Reason.{Reason}
use Rattle.value.proofs.Laws.Lists.{at_below}
use Rattle.format.specs.Syntax.{Program, Plain, concurrent}
use Rattle.format.specs.Encode.{table}
use Rattle.format.specs.Labels.{labelled}
use Rattle.format.proofs.Laws.Sound.{Sound}
use Rattle.format.proofs.Laws.Accepted.{accepted_exactly}
use Rattle.translation.specs.Placement.{start_in, row_of}
use Rattle.translation.proofs.Laws.Placing.Modes.{sound_placed}
use Rattle.semantics.specs.Threads as P
use Rattle.semantics.specs.Copy as C
use Rattle.semantics.specs.Buffers.{log}
use Rattle.semantics.proofs.Laws.After.{Reaches, after_steps}
use Rattle.agreement.specs.Agreement.{program_run, copy_run, Visit, visits_of, Closing, Agree, Demand3}
use Rattle.agreement.proofs.Laws.Whole.{demand}

-- DEMAND 3: A PROGRAM AND ITS COPY AGREE, IN BOTH MODES.
pub demand3 : Demand3
unfolding Demand3
demand3 = λ mode t p ts b bytes e small brief below enough.
    let read : (t ≡ table concurrent p) × Sound concurrent p = (accepted_exactly concurrent t bytes p).0 e in
    rw read.0
    (demand p (start_in mode p.procs) (row_of mode p.procs) (sound_placed mode p read.1) read.1 ts b small brief below enough)

-- WHERE THEY MEET, THE PROGRAM IS AFTER K STEPS: what `Meet` says of `program_run p (take k ts)` it says of that state.
pub meets_after : {q : Program Plain} {t : List ℕ} {p : Program Plain} {ts : List ℕ} {b : ℕ} → Agree q t p ts b → (k : ℕ) (v : Visit)
    → at (visits_of q b p ts) k ≡ is v
    → Reaches (labelled p) ts k (program_run p (take k ts))
meets_after {q = q} {p = p} {ts = ts} {b = b} agree k v e =
    after_steps p ts k (omega (arith, at_below (visits_of q b p ts) k e, agree.visited))

-- AND THEIR EVENTS ARE THE SAME BYTES, THE LABELS AMONG THEM: request #105, "Demand 3's equal reads and writes then include the label".
pub same_bytes_lem : {q : Program Plain} {t : List ℕ} {p : Program Plain} {ts : List ℕ} {b : ℕ} → Agree q t p ts b → (k : ℕ) (v : Visit)
    → at (visits_of q b p ts) k ≡ is v
    → (room : ℕ) → log room v.config.events ≡ log room (program_run p (take k ts)).events
same_bytes_lem agree k v e room = ap (log room) (agree.meets k v e).same.events

-- WHERE ONE IS BLOCKED, THE OTHER IS, FOR THE SAME REASON: request #101, "demand 3 now includes equal reasons".
pub same_reason : {q : Program Plain} {t : List ℕ} {p : Program Plain} {ts : List ℕ} {b : ℕ} → Agree q t p ts b → (r : Reason)
    → ((program_run p ts).how ≡ P.blocked r) ↔ ((copy_run q b p ts).how ≡ P.blocked r)
same_reason agree r = (λ e. agree.how ∙ e, λ e. sym agree.how ∙ e)

-- the copy's steps by its end
closed : (p : Program Plain) (ts : List ℕ) (r : P.Ran) (c d : C.Ran) (how : P.End) → Closing p ts r c how → Closing p ts r d how
    → ((why : Reason) → how ≡ P.blocked why → ⊥)
    → c.steps ≡ d.steps
closed p ts r c d P.finished h k free = omega (arith, h.0, k.0)
closed p ts r c d P.used h k free = omega (arith, h.0, k.0)
closed p ts r c d (P.blocked why) h k free = absurd (free why refl)
closed p ts r c d P.spent h k free = absurd h

-- TWO COPIES OF A PROGRAM THAT IS NOT BLOCKED TAKE THE SAME STEPS: request #107, "Steps and prices don't change".
pub same_steps : {q o : Program Plain} {t : List ℕ} {p : Program Plain} {ts : List ℕ} {b : ℕ} → Agree q t p ts b → Agree o t p ts b
    → ((why : Reason) → (program_run p ts).how ≡ P.blocked why → ⊥)
    → (copy_run q b p ts).steps ≡ (copy_run o b p ts).steps
same_steps {q = q} {o = o} {p = p} {ts = ts} {b = b} x y free = closed p ts (program_run p ts) (copy_run q b p ts) (copy_run o b p ts) (program_run p ts).how x.closing y.closing free
