-- One law for each way through the call that translates, runs both machines and tells their figures.
use Prim.Native.Nat.{ℕ, ◌≤◌}
use native.Mathlib.Omega.{arith}
use mathlib.Core.Path.{◌≡◌, refl, ap, ◌∙◌}
use mathlib.Core.List.{List, []}
use lib.ListN.{length, take, get_or, replicate, length-replicate}
use lib.Dec.{eqb}
use mir.Syntax.{w8}
use mir.Val.{Fits}
use borrow.Author.Tests.{eq-eqb, ne_eqb, eqb-true, eqb-false}
use Rattle.value.proofs.Laws.Tests.{by_test}
use Rattle.format.specs.declared.ReadAnswer.{ReadAnswer}
use Rattle.format.specs.Calls.{read_call}
use Rattle.format.specs.Syntax.{Kind, concurrent, sequential}
use Rattle.format.specs.Rules.{limits}
use Rattle.reader.proofs.Verdicts.{slice_bytes}
use Rattle.translation.specs.declared.WriteAnswer.{WriteAnswer}
use Rattle.translation.specs.declared.Mode.{Mode}
use Rattle.translation.specs.Calls.{translate_call}
use Rattle.semantics.specs.declared.RunAnswer.{RunAnswer}
use Rattle.semantics.specs.Calls.{Outcome, concurrent_call, sequential_call}
use Rattle.agreement.specs.declared.Figures.{Figures}
use Rattle.agreement.specs.Agreement.{budget}
use Rattle.agreement.specs.Figures.{refusal, figures_call}
use Rattle.agreement.specs.Answers.{program_answer, copy_answer, compared}
use Rattle.agreement.proofs.Laws.Told.{program_answers, copy_answers, told_unwritten, told_fits, told_not_run, told_both, most_cells}

-- what code knows of a slice: its elements are bytes
abbrev Known : List ℕ → Type 0
Known t = (i : ℕ) → Fits w8 (get_or t i 0)

-- ---- the two runs

-- room for the most cells
abbrev room : Kind → List ℕ
room k = replicate (most_cells k) 0

module _ (t ts : List ℕ) {cs es : List ℕ} {r : RunAnswer} (known : Known t) where
  -- the program's
  pub program_ran : ◌≡◌ {A = Outcome} (record { answer = r; cells = cs; events = es }) (concurrent_call t ts (room concurrent) [])
      → r ≡ program_answer t ts
  program_ran e = ap (λ x. x.answer) e ∙ program_answers t ts (room concurrent) [] (slice_bytes t known) (simp length-replicate (omega arith))

  -- the copy's
  pub copy_ran : (h : ℕ) → ◌≡◌ {A = Outcome} (record { answer = r; cells = cs; events = es }) (sequential_call budget h t ts (room sequential) [])
      → r ≡ copy_answer t ts h
  copy_ran h e = ap (λ x. x.answer) e ∙ copy_answers t ts (room sequential) [] h (slice_bytes t known) (simp length-replicate (omega arith))

-- ---- compared

module _ (t ts u : List ℕ) {p : RunAnswer} (P : p ≡ program_answer t ts) where
  -- what both runs answer, of the table t and its copy u
  abbrev pub Compared : Figures → Type 0
  Compared r = r ≡ compared (program_answer t ts) (copy_answer u ts (read_call concurrent t).locations)

  -- a program that is not run
  pub compared_refused : {r : Figures} → (p.number ≡ 0 → ⊥) → r ≡ refusal p.number → Compared r
  unfolding compared
  compared_refused z e = e ∙ rw (← P) (rw (ne_eqb _ _ z))

  -- one that is
  pub compared_both : {a : ReadAnswer} (s : RunAnswer) → p.number ≡ 0 → a ≡ read_call concurrent t → s ≡ copy_answer u ts a.locations
      → Compared (record { number = 0; end = p.end; steps = p.steps; copy = s.steps; unused = p.unused; events = p.events; reason = p.reason })
  unfolding compared
  compared_both s z A S = rw (← P, ← A, ← S) (rw (eq-eqb _ _ z))

-- ---- the figures

-- room for the longest copy
abbrev longest : List ℕ
longest = replicate (limits sequential).bytes 0

module _ (mode : Mode) (t ts : List ℕ) {o : List ℕ} {w : WriteAnswer} (W : record { answer = w; out = o } ≡ translate_call mode t longest) where
  -- a table that is not translated
  pub figures_unwritten : {r : Figures} → (w.number ≡ 0 → ⊥) → r ≡ refusal w.number → r ≡ figures_call mode t ts
  figures_unwritten z e = e ∙ told_unwritten mode t ts longest W (simp length-replicate (omega arith)) z

  module _ (known : Known t) (written : w.number ≡ 0) where
    -- the copy lies in the buffer
    pub copy_fits : w.length ≤ length o
    copy_fits = told_fits mode t ts longest W (slice_bytes t known) written (simp length-replicate (omega arith))

    -- one that is
    pub figures_written : {r : Figures} → r ≡ compared (program_answer t ts) (copy_answer (take w.length o) ts (read_call concurrent t).locations)
        → r ≡ figures_call mode t ts
    unfolding compared
    figures_written e =
        let p : RunAnswer = program_answer t ts in
        by_test (eqb p.number 0)
        (λ a. e ∙ rw a (told_both mode t ts longest W (slice_bytes t known) written refl (eqb-true _ _ a) refl refl))
        (λ a. e ∙ rw a (told_not_run mode t ts longest W (slice_bytes t known) written refl (eqb-false _ _ a)))
