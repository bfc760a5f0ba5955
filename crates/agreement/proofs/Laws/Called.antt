-- Demand 3 of the calls: translate, run both, compare.
use Rattle.std.specs.Prelude.{ℕ, zero, suc, ◌*◌, ◌≤◌, ◌≡◌, refl, List, [], ◌∷◌, ◌++◌, true, length, take, drop}
use Rattle.std.proofs.Common.{arith, sym, ap, ◌∙◌, append_assoc, take_at, le-leb}
use Rattle.value.specs.Lists.{sum, over}
use Rattle.value.specs.Values.{cell_bytes, cell_size}
use Rattle.value.specs.declared.Reason.{Reason}
use Rattle.format.specs.Syntax.{Program, Plain, concurrent, sequential}
use Rattle.format.specs.Encode.{each}
use Rattle.format.specs.Labels.{labelled}
use Rattle.format.specs.Rules.{verdict, accepted}
use Rattle.format.proofs.Laws.Bytes.{Bytes}
use Rattle.translation.specs.declared.Mode.{Mode}
use Rattle.translation.specs.Translate.{translate_in}
use Rattle.translation.specs.Calls.{translate_call}
use Rattle.translation.proofs.Laws.Called.{Copied, call_copies}
use Rattle.semantics.specs.Memory.{Memory}
use Rattle.semantics.specs.Threads as P
use Rattle.semantics.specs.Copy as C
use Rattle.semantics.specs.Buffers.{cells}
use Rattle.semantics.proofs.Laws.Cells.{shape, shape_fresh}
use Rattle.semantics.proofs.Laws.Shapes.{run_shape}
use Rattle.semantics.proofs.Laws.Called.{length_cells, Scheduled, scheduled?, Answers, by_rule, runs_it, concurrent_answers}
use Rattle.semantics.specs.Calls.{reason_of, ran, roomy, run_as, concurrent_call, sequential_call}
use Rattle.agreement.specs.Agreement.{program_run, copy_run, Same, Closing, budget, AgreeIn, Demand3}
use Rattle.agreement.proofs.Laws.Accepted.{demand3}

-- ---- what the lent buffers show

-- the bytes of things, split
each_split : {A : Type 0} (item : A → List ℕ) (m : ℕ) (xs : List A) → each item xs ≡ each item (take m xs) ++ each item (drop m xs)
each_split item zero xs = refl
each_split item (suc m) [] = refl
each_split item (suc m) (x ∷ xs) = rw (each_split item m xs) (sym (append_assoc (item x) (each item (take m xs)) (each item (drop m xs))))

-- memory that begins with ξ leaves a cell buffer that begins with ξ's bytes
begins_with : (η ξ : Memory) (m n : ℕ) (cs : List ℕ) → take m η ≡ ξ → length (cells ξ) ≡ n → take n (over (cells η) cs) ≡ cells ξ
begins_with η ξ m n cs e long =
    let split : cells η ≡ cells ξ ++ cells (drop m η) = each_split (each cell_bytes) m η ∙ rw e in
    let whole : over (cells η) cs ≡ cells ξ ++ (cells (drop m η) ++ drop (length (cells η)) cs)
    = ap (◌++ drop (length (cells η)) cs) split ∙ append_assoc (cells ξ) (cells (drop m η)) (drop (length (cells η)) cs) in
    rw whole (take_at (cells ξ) (cells (drop m η) ++ drop (length (cells η)) cs) n long)

-- the program's cells have 5 bytes each
program_cells : (p : Program Plain) (ts : List ℕ) → length (cells (program_run p ts).state.memory) ≡ cell_size * sum p.sizes
program_cells p ts =
    let shaped : shape (program_run p ts).state.memory ≡ p.sizes
    = run_shape (labelled p) ts (P.start (labelled p)) 0 [] ∙ shape_fresh p.sizes in
    rw shaped at (length_cells (program_run p ts).state.memory)

-- a copy that is not blocked shows the program's state at its end
shows_end : (p : Program Plain) (ts : List ℕ) (r : P.Ran) (c : C.Ran) (how : P.End) → Closing p ts r c how → ((why : Reason) → how ≡ P.blocked why → ⊥)
    → Same p r c.config
shows_end p ts r c P.finished h free = h.1
shows_end p ts r c P.used h free = h.1
shows_end p ts r c (P.blocked why) h free = absurd (free why refl)
shows_end p ts r c P.spent h free = absurd h

-- ---- the calls

-- what the calls say of the program p of the table t and of its copy's table t', in a mode
pub record CallsAgree (mode : Mode) (t ts cs es t' : List ℕ) (b : ℕ) (p : Program Plain) : Type 0 where
  pub reads : verdict concurrent t ≡ accepted p
  pub back : verdict sequential t' ≡ accepted (translate_in mode p)
  pub agree : AgreeIn mode t p ts b
  -- the program's call answers its run
  pub runs : (concurrent_call t ts cs es).answer
      ≡ ran (program_run p ts).how (program_run p ts).steps (program_run p ts).unused (length (program_run p ts).events)
  -- with h = M and with room for the cells, the copy's call answers the copy's run, which ends the same way, for the same reason
  pub follows : (cs' es' : List ℕ) → roomy (translate_in mode p) cs' ≡ true
      → (sequential_call b (length p.sizes) t' ts cs' es').answer
      ≡ (let c : C.Ran = copy_run (translate_in mode p) b p ts in
      ran (program_run p ts).how c.steps (length c.config.todo) (length c.config.events))
  -- so both answer the same reason
  pub reason : (cs' es' : List ℕ) → roomy (translate_in mode p) cs' ≡ true
      → (sequential_call b (length p.sizes) t' ts cs' es').answer.reason ≡ (concurrent_call t ts cs es).answer.reason
  -- unless they are blocked, both leave the same bytes for the program's cells, and in the same event buffer the same events
  pub leave : (cs' : List ℕ) → roomy (translate_in mode p) cs' ≡ true → ((why : Reason) → (program_run p ts).how ≡ P.blocked why → ⊥)
      → (take (cell_size * sum p.sizes) (sequential_call b (length p.sizes) t' ts cs' es).cells
      ≡ take (cell_size * sum p.sizes) (concurrent_call t ts cs es).cells)
      × ((sequential_call b (length p.sizes) t' ts cs' es).events ≡ (concurrent_call t ts cs es).events)

-- a run that is not refused was let through 11 and 12
through : (t ts cs : List ℕ) (p : Program Plain) → verdict concurrent t ≡ accepted p → Answers concurrent t ts cs 0
    → Scheduled concurrent p ts × (cell_size * sum p.sizes ≤ length cs)
through t ts cs p e (by_rule s) = absurd (omega (arith, s.within.low))
through t ts cs p e (runs_it {p = q} r s room) =
    let both : accepted q ≡ accepted p = sym r ∙ e in
    let same : q ≡ p = cc in
    rw (← same) (s, room)

-- IF A TABLE IS RUN AND TRANSLATED, THE RUN OF ITS TRANSLATION ENDS THE SAME WAY, AND THE TWO AGREE.
pub calls_agree : (mode : Mode) (t ts cs es out : List ℕ) (b : ℕ) → Bytes t
    → (concurrent_call t ts cs es).answer.number ≡ 0 → (translate_call mode t out).answer.number ≡ 0 → budget ≤ b
    → (p : Program Plain) × CallsAgree mode t ts cs es (take (translate_call mode t out).answer.length (translate_call mode t out).out) b p
unfolding Demand3
calls_agree mode t ts cs es out b bytes run write enough =
    let c : (p : Program Plain) × Copied mode t out (translate_call mode t out).answer.length p = call_copies mode t out bytes write in
    let p : Program Plain = c.0 in
    let ready : Scheduled concurrent p ts × (cell_size * sum p.sizes ≤ length cs)
    = through t ts cs p c.1.reads ((concurrent_answers t ts cs es bytes 0).0 run) in
    let scheduled = (scheduled? concurrent p ts).of ready.0 in
    let agree : AgreeIn mode t p ts b = demand3 mode t p ts b bytes c.1.reads c.1.short ready.0.0 ready.0.1 enough in (
      p,
      record {
        reads = c.1.reads;
        back = c.1.back;
        agree = agree;
        runs = rw (c.1.reads, scheduled, le-leb _ _ ready.1, run_as);
        follows = λ cs' es' room. rw (c.1.back, le-leb _ _ ready.0.0, room, run_as) (rw agree.how);
        reason = λ cs' es' room.
            rw (c.1.back, le-leb _ _ ready.0.0, room, c.1.reads, scheduled, le-leb _ _ ready.1, run_as) (ap reason_of agree.how);
        leave = λ cs' room free.
            let same : Same p (program_run p ts) (copy_run (translate_in mode p) b p ts).config
            = shows_end p ts (program_run p ts) (copy_run (translate_in mode p) b p ts) (program_run p ts).how agree.closing free in
            let long = program_cells p ts in
            rw (c.1.back, le-leb _ _ ready.0.0, room, c.1.reads, scheduled, le-leb _ _ ready.1, run_as) (
              begins_with (copy_run (translate_in mode p) b p ts).config.memory (program_run p ts).state.memory (length p.sizes)
                  (cell_size * sum p.sizes) cs' same.memory long
                  ∙ sym (take_at (cells (program_run p ts).state.memory) _ (cell_size * sum p.sizes) long),
              rw same.events,
            );
      },
    )
