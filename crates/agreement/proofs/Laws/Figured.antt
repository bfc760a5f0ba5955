-- Demand 3 told of the run program's figures.
use Rattle.std.specs.Prelude.{ℕ, ◌+◌, ◌<◌, ◌≡◌, refl, List, length, ltb, leb}
use Rattle.std.proofs.Common.{arith, sym, ap, leb-true, ltb-false}
use Rattle.value.specs.Lists.{all}
use Rattle.value.specs.declared.Reason.{Reason}
use Rattle.value.proofs.Laws.Tests.{by_test, both_passed, lt?}
use Rattle.value.proofs.Laws.Lists.{all?}
use Rattle.format.specs.Syntax.{Program, Plain, concurrent, sequential}
use Rattle.format.specs.Encode.{table}
use Rattle.format.specs.Rules.{Verdict, refused, accepted, verdict, limits}
use Rattle.format.proofs.Laws.Bytes.{Bytes}
use Rattle.format.proofs.Laws.Refusals.{refused_within}
use Rattle.translation.specs.declared.Mode.{Mode}
use Rattle.translation.specs.Translate.{translate_in}
use Rattle.semantics.specs.Threads as P
use Rattle.semantics.specs.Copy as C
use Rattle.semantics.specs.Calls.{end_number, reason_of, scheduled, max_entries}
use Rattle.agreement.specs.declared.Figures.{Figures}
use Rattle.agreement.specs.Agreement.{program_run, copy_run, budget, head_steps, Closing, AgreeIn, Demand3}
use Rattle.agreement.specs.Figures.{figures, figures_of, figures_call}
use Rattle.agreement.proofs.Laws.Accepted.{demand3}

-- the copy's steps, by the end: "exactly 3T+2 steps plus, for each step taken, L+2T+10 and the listed price of that step" at the last
-- loop head, from where it takes two more to finish and one more to find the schedule used up
abbrev pub Steps : ℕ → ℕ → P.End → Type 0
Steps copy head P.finished = copy ≡ head + 2
Steps copy head P.used = copy ≡ head + 1
Steps copy head (P.blocked why) = head < copy
Steps copy head P.spent = ⊥

-- what the figures say of the program p of the table t
pub record Figured (mode : Mode) (t ts : List ℕ) (f : Figures) (p : Program Plain) : Type 0 where
  pub reads : verdict concurrent t ≡ accepted p
  pub agree : AgreeIn mode t p ts budget
  -- the line tells the program's run
  pub told : f ≡ figures (program_run p ts) (copy_run (translate_in mode p) budget p ts)
  -- the copy ends the same way, for the same reason, and so never at its budget
  pub end : f.end ≡ end_number (copy_run (translate_in mode p) budget p ts).how
  pub reason : f.reason ≡ reason_of (copy_run (translate_in mode p) budget p ts).how
  pub never : (copy_run (translate_in mode p) budget p ts).how ≡ P.spent → ⊥
  -- with the same shared events, where the run is not blocked
  pub events : ((why : Reason) → (program_run p ts).how ≡ P.blocked why → ⊥) → f.events ≡ length (copy_run (translate_in mode p) budget p ts).config.events
  pub steps : Steps f.copy (head_steps p ts) (program_run p ts).how

-- the copy's steps, from its end
closing_steps : (p : Program Plain) (ts : List ℕ) (r : P.Ran) (c : C.Ran) (how : P.End) → Closing p ts r c how → Steps c.steps (head_steps p ts) how
closing_steps p ts r c P.finished h = h.0
closing_steps p ts r c P.used h = h.0
closing_steps p ts r c (P.blocked why) h = h
closing_steps p ts r c P.spent h = h

-- the copy's events, from its end
closing_events : (p : Program Plain) (ts : List ℕ) (r : P.Ran) (c : C.Ran) (how : P.End) → Closing p ts r c how → ((why : Reason) → how ≡ P.blocked why → ⊥)
    → length r.events ≡ length c.config.events
closing_events p ts r c P.finished h n = ap length (sym h.1.events)
closing_events p ts r c P.used h n = ap length (sym h.1.events)
closing_events p ts r c (P.blocked why) h n = absurd (n why refl)
closing_events p ts r c P.spent h n = absurd h

-- the figures of a program that agrees with its copy
figured : (mode : Mode) (t ts : List ℕ) (p : Program Plain) → verdict concurrent t ≡ accepted p → AgreeIn mode t p ts budget
    → Figured mode t ts (figures (program_run p ts) (copy_run (translate_in mode p) budget p ts)) p
figured mode t ts p reads agree =
    let r : P.Ran = program_run p ts in
    let c : C.Ran = copy_run (translate_in mode p) budget p ts in
    record {
      reads = reads;
      agree = agree;
      told = refl;
      end = ap end_number (sym agree.how);
      reason = ap reason_of (sym agree.how);
      never = agree.never;
      events = closing_events p ts r c r.how agree.closing;
      steps = closing_steps p ts r c r.how agree.closing;
    }

-- figures that are no refusal went through 9 and 11
through : (mode : Mode) (t ts : List ℕ) (p : Program Plain) → Bytes t → verdict concurrent t ≡ accepted p → (figures_of mode p ts).number ≡ 0
    → Figured mode t ts (figures_of mode p ts) p
unfolding Demand3
through mode t ts p bytes reads zero =
    by_test (ltb (limits sequential).bytes (length (table sequential (translate_in mode p))))
    (λ a. let z : ◌≡◌ {A = ℕ} 9 0 = rw (a, figures_of) at zero in absurd (omega arith)) λ a.
    by_test (scheduled concurrent p ts)
    (λ b.
    let two = both_passed (leb (length ts) max_entries) (all (λ t. ltb t (length p.mains)) ts) b in
    let agree : AgreeIn mode t p ts budget
    = demand3 mode t p ts budget bytes reads (ltb-false _ _ a) (leb-true _ _ two.0)
    ((all? (λ t. lt? t (length p.mains)) ts).so two.1) (omega arith) in
    rw (a, b, figures_of) (figured mode t ts p reads agree))
    (λ b. let z : ◌≡◌ {A = ℕ} 11 0 = rw (a, b, figures_of) at zero in absurd (omega arith))

-- WHAT THE RUN PROGRAM TELLS IS WHAT DEMAND 3 SAYS.
pub figures_agree : (mode : Mode) (t ts : List ℕ) → Bytes t → (figures_call mode t ts).number ≡ 0 → (p : Program Plain) × Figured mode t ts (figures_call mode t ts) p
figures_agree mode t ts bytes zero = by (verdict concurrent t) refl
  where
    by : (v : Verdict) → verdict concurrent t ≡ v → (p : Program Plain) × Figured mode t ts (figures_call mode t ts) p
    by (refused n) e =
        let z : n ≡ 0 = rw e at zero in
        absurd (omega (arith, (refused_within concurrent t n e).low))
    by (accepted p) e = (p, rw e (through mode t ts p bytes e (rw e at zero)))
