-- From what the calls answer to what the run program tells.
use Rattle.std.specs.Prelude.{ℕ, ◌*◌, ◌≤◌, refl, List, take}
use Rattle.std.proofs.Common.{arith, sym, ◌∙◌}
use Rattle.std.proofs.Math.Path.{◌≡◌, ap}
use Rattle.std.proofs.Math.Bool.{true}
use Rattle.std.proofs.Math.ListN.{length}
use Rattle.std.proofs.Math.Dec.{ltb, leb}
use borrow.Author.Tests.{le-leb, le-ltb, ltb-false}
use Rattle.value.specs.Lists.{sum, all}
use Rattle.value.proofs.Laws.Tests.{by_test, both_passed}
use Rattle.value.proofs.Laws.Bytes.{Bytes}
use Rattle.value.specs.Values.{cell_size}
use Rattle.format.specs.declared.ReadAnswer.{ReadAnswer}
use Rattle.format.specs.Calls.{read_call}
use Rattle.format.specs.Syntax.{Program, Plain, Kind, concurrent, sequential}
use Rattle.format.specs.Encode.{table}
use Rattle.format.specs.Rules.{Verdict, refused, accepted, verdict, limits}
use Rattle.format.proofs.Laws.Accepted.{accepted_exactly}
use Rattle.translation.specs.declared.WriteAnswer.{WriteAnswer}
use Rattle.translation.specs.declared.Mode.{Mode}
use Rattle.translation.specs.Translate.{translate_in}
use Rattle.translation.specs.Calls.{writes, writes_table, translate_call}
use Rattle.translation.proofs.Laws.Called.{Copied, call_copies}
use Rattle.semantics.specs.declared.RunAnswer.{RunAnswer}
use Rattle.semantics.specs.Calls.{Outcome, max_entries, scheduled, roomy, run_as, concurrent_outcome, concurrent_call, sequential_outcome, sequential_call}
use Rattle.agreement.specs.Agreement.{budget}
use Rattle.agreement.specs.Figures.{refusal, figures_of, figures_as, figures_call}
use Rattle.agreement.specs.Answers.{answer_as, program_answer, copy_answer}

-- ---- with room for the most cells, a run answers as if there were no buffers

-- an accepted program's cells have room
roomy_enough : (k : Kind) (t cs : List ℕ) (p : Program Plain) → Bytes t → verdict k t ≡ accepted p → cell_size * (limits k).cells ≤ length cs
    → roomy p cs ≡ true
roomy_enough k t cs p h e room = le-leb (cell_size * sum p.sizes) (length cs) (omega (arith, ((accepted_exactly k t h p).0 e).1.cells))

-- through the refusals
as_enough : (k : Kind) (t ts cs es : List ℕ) (go : Program Plain → Outcome) → Bytes t → cell_size * (limits k).cells ≤ length cs
    → (run_as k (verdict k t) go ts cs es).answer ≡ answer_as k (verdict k t) (λ p. (go p).answer) ts
as_enough k t ts cs es go h room = by (verdict k t) refl
  where
    by : (v : Verdict) → verdict k t ≡ v → (run_as k v go ts cs es).answer ≡ answer_as k v (λ p. (go p).answer) ts
    by (refused n) e = refl
    by (accepted p) e =
        by_test (scheduled k p ts)
        (λ a. rw (a, roomy_enough k t cs p h e room, run_as, answer_as))
        (λ a. rw (a, run_as, answer_as))

-- the bytes of the most cells that a table of kind k has
abbrev pub most_cells : Kind → ℕ
most_cells k = cell_size * (limits k).cells

-- THE PROGRAM'S RUN, with room for its cells
pub program_answers : (t ts cs es : List ℕ) → Bytes t → most_cells concurrent ≤ length cs → (concurrent_call t ts cs es).answer ≡ program_answer t ts
unfolding program_answer
program_answers t ts cs es h room = as_enough concurrent t ts cs es (concurrent_outcome ts cs es) h room

-- THE COPY'S RUN, with room for its cells
pub copy_answers : (t ts cs es : List ℕ) (h : ℕ) → Bytes t → most_cells sequential ≤ length cs
    → (sequential_call budget h t ts cs es).answer ≡ copy_answer t ts h
unfolding copy_answer
copy_answers t ts cs es h bytes room = as_enough sequential t ts cs es (sequential_outcome budget h ts cs es) bytes room

-- ---- the figures

module _ (mode : Mode) (t ts out : List ℕ) {o : List ℕ} {w : WriteAnswer} (W : record { answer = w; out = o } ≡ translate_call mode t out) where
  -- a table that is not translated: 1 to 9, since the copy has room
  pub told_unwritten : (limits sequential).bytes ≤ length out → (w.number ≡ 0 → ⊥) → refusal w.number ≡ figures_call mode t ts
  told_unwritten room z = by (verdict concurrent t) refl
    where
      by : (v : Verdict) → verdict concurrent t ≡ v → refusal w.number ≡ figures_as mode v ts
      by (refused n) e =
          let same : w.number ≡ n = ap (λ x. x.answer.number) W ∙ rw e in
          ap refusal same
      by (accepted p) e =
          let new : List ℕ = table sequential (translate_in mode p) in
          by_test (ltb (limits sequential).bytes (length new))
          (λ a. let same : w.number ≡ 9 = ap (λ x. x.answer.number) W ∙ rw (e, a, writes_table) in rw (a, figures_of) (ap refusal same))
          (λ a.
          let fits : length new ≤ length out = omega (arith, ltb-false (limits sequential).bytes (length new) a) in
          absurd (z (ap (λ x. x.answer.number) W ∙ rw (e, a, writes_table, le-ltb _ _ fits, writes))))

  module _ (bytes : Bytes t) (written : w.number ≡ 0) where
    -- the copy's table
    pub told_copy : (p : Program Plain) × Copied mode t out w.length p
    told_copy =
        let n : (translate_call mode t out).answer.length ≡ w.length = sym (ap (λ x. x.answer.length) W) in
        rw n at (call_copies mode t out bytes (sym (ap (λ x. x.answer.number) W) ∙ written))

    -- it lies in the buffer
    pub told_fits : (limits sequential).bytes ≤ length out → w.length ≤ length o
    told_fits room =
        let c : Copied mode t out w.length told_copy.0 = told_copy.1 in
        omega (arith, c.count, c.short, ap (λ x. length x.out) W ∙ c.length)

    -- a program that is not run: 11, since its cells have room
    pub told_not_run : {r : RunAnswer} → r ≡ program_answer t ts → (r.number ≡ 0 → ⊥) → refusal r.number ≡ figures_call mode t ts
    unfolding program_answer
    told_not_run {r} R z =
        let p : Program Plain = told_copy.0 in
        let c : Copied mode t out w.length p = told_copy.1 in
        by_test (scheduled concurrent p ts)
        (λ a. absurd (z (ap (λ x. x.number) R ∙ rw (c.reads, a, answer_as))))
        (λ a.
        let same : r.number ≡ 11 = ap (λ x. x.number) R ∙ rw (c.reads, a, answer_as) in
        rw (c.reads, le-ltb _ _ c.short, a, figures_of) (ap refusal same))

    -- a program that is run, and its copy
    pub told_both : {r s : RunAnswer} {a : ReadAnswer} → r ≡ program_answer t ts → r.number ≡ 0 → a ≡ read_call concurrent t
        → s ≡ copy_answer (take w.length o) ts a.locations
        → record { number = 0; end = r.end; steps = r.steps; copy = s.steps; unused = r.unused; events = r.events; reason = r.reason }
        ≡ figures_call mode t ts
    unfolding program_answer copy_answer
    told_both {r} {s} {a} R z A S =
        let p : Program Plain = told_copy.0 in
        let c : Copied mode t out w.length p = told_copy.1 in
        let back : verdict sequential (take w.length o) ≡ accepted (translate_in mode p)
        = ap (λ x. verdict sequential (take w.length x.out)) W ∙ c.back in
        let h : a.locations ≡ length p.sizes = ap (λ x. x.locations) A ∙ rw c.reads in
        by_test (scheduled concurrent p ts)
        (λ a.
        let short : leb (length ts) max_entries ≡ true = (both_passed (leb (length ts) max_entries) (all (λ t. ltb t (length p.mains)) ts) a).0 in
        rw (R, S, h, back, short, c.reads, le-ltb _ _ c.short, a, answer_as, figures_of))
        (λ a. let no : ◌≡◌ {A = ℕ} 11 0 = rw (R, c.reads, a, answer_as) at z in absurd (omega arith))
