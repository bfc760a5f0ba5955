-- The agreement of a program that passes the rules with its copy, from single steps (Bounded), wherever the locals are placed.
use Rattle.std.specs.Prelude.{ℕ, ◌+◌, ◌*◌, ◌-◌, ◌≤◌, ◌<◌, ◌≡◌, refl, List, [], ◌∷◌, length, take, pos}
use Rattle.std.proofs.Common.{arith, zero-add, sym, ap, subst, ◌∙◌}
use Rattle.value.specs.declared.Value.TheVariants.{Whole}
use Rattle.value.proofs.Laws.Lists.{map_same, Each, each_at}
use Rattle.format.specs.Syntax.{Program, Plain, sequential, concurrent}
use Rattle.format.specs.Encode.{table}
use Rattle.format.specs.Labels.{counts, labelled, end_of}
use Rattle.format.specs.Rules.{limits, max_labels}
use Rattle.format.proofs.Laws.Sound.{Sound}
use Rattle.format.proofs.Laws.Labelled.{end_of_labels}
use Rattle.translation.proofs.Laws.Placing.Modes.{Placed}
use Rattle.semantics.specs.Step.{Stack}
use Rattle.semantics.specs.Threads as P
use Rattle.semantics.specs.Copy as C
use Rattle.semantics.specs.Calls.{max_entries}
use Rattle.agreement.specs.Agreement.{budget, visits, Same, Agree, program_run, copy_run, head_steps, visits_of, Closing, spent, prices_of}
use Rattle.agreement.proofs.Laws.Reps.{label_by}
use Rattle.agreement.proofs.Laws.Frames.{World}
use Rattle.agreement.proofs.Laws.Round.{Arrived, Zeroth}
use Rattle.agreement.proofs.Laws.Visited.{Along, along}
use Rattle.agreement.proofs.Laws.Shows.{Shows}
use Rattle.agreement.proofs.Laws.Follows.{Bounded, Follow, room, follow, Ends}
use Rattle.agreement.proofs.Laws.Singles.{bounded}
use Rattle.agreement.proofs.Laws.Start.{run_start}
use Rattle.agreement.proofs.Laws.Worlds.{copy_by, world, zeroth, startable}
use Rattle.agreement.proofs.Laws.Sizes.{table_bytes}

module _ (p : Program Plain) (start : ℕ → ℕ) (R : ℕ) (D : Placed p.procs start R) (sound : Sound concurrent p) where
  -- the world of p and its copy
  abbrev W : World
  W = world p start R D sound

  -- its copy
  abbrev q : Program Plain
  q = copy_by p start R

  -- and its procedure 0
  abbrev Z : Zeroth W p.mains (counts p.procs)
  Z = zeroth p start R D sound

  -- the label of a thread, by either way to count end labels
  label_same : (s : Stack ℕ) → label_by (end_of 1 p.procs) s ≡ P.label_of (labelled p) s
  label_same [] = refl
  label_same (f ∷ s) = rw (end_of_labels p.procs 1 1 f.proc)

  -- what the copy shows is the same
  shown_same : (r : P.Ran) (c : C.Config) → Shows W r.state r.events c → Same p r c
  shown_same r c s = record {
    memory = s.memory;
    events = s.events;
    labels =
        s.labels
        ∙ map_same (λ s. Whole (pos (label_by (end_of 1 p.procs) s))) (λ s. Whole (pos (P.label_of (labelled p) s))) r.state.threads
        (λ s. rw (label_same s));
  }

  -- the copy's end, in the words of demand 3
  closing_same : (ts : List ℕ) (r : P.Ran) (c : C.Ran) (k : ℕ) → k ≡ head_steps p ts → (how : P.End)
      → Ends W p.mains (counts p.procs) Z 0 k r c how → Closing p ts r c how
  closing_same ts r c k e P.finished h = (omega (arith, h.0), shown_same r c.config h.1, h.2)
  closing_same ts r c k e P.used h = (omega (arith, h.0), shown_same r c.config h.1, h.2)
  closing_same ts r c k e (P.blocked why) h = omega arith
  closing_same ts r c k e P.spent h = h

  -- a program and its copy agree, if single steps cost at most X and are blocked together
  agree : (X : ℕ) → Bounded W p.mains (counts p.procs) Z X → (ts : List ℕ) (n : ℕ) → Each (λ t. t < length p.mains) ts
      → 3 * length p.mains + 2 + room X ts ≤ n → Agree q (table concurrent p) p ts n
  agree X B ts n below enough =
      let A : Along (length p.sizes) q.procs (Arrived W p.mains (counts p.procs) (P.start (labelled p)) ts 0 []) k
      (C.start q ts)
      = along (length p.sizes) q.procs (run_start W (counts p.procs) Z (startable p start R D sound) ts) in
      go A.there (A.visits_there (n - k) 0) (A.run_there (n - k) 0)
      (follow W p.mains (counts p.procs) Z X B ts (P.start (labelled p)) 0 [] (n - k) (0 + k) 0 A.there
      (λ i x e. each_at _ ts i below e)
      (omega arith) A.holds)
    where
      -- the first loop head
      k : ℕ
      k = 3 * length p.mains + 2

      -- c is there
      go : (c : C.Config)
          → visits (length p.sizes) q.procs (k + (n - k)) 0 (C.start q ts)
          ≡ visits (length p.sizes) q.procs (n - k) (0 + k) c
          → copy_run q (k + (n - k)) p ts ≡ C.run (length p.sizes) q.procs (n - k) (0 + k) c
          → Follow W p.mains (counts p.procs) Z X ts (P.start (labelled p)) 0 [] (n - k) (0 + k) c
          → Agree q (table concurrent p) p ts n
      go c sees runs g =
          let closes : Closing p ts (program_run p ts) (C.run (length p.sizes) q.procs (n - k) (0 + k) c) (program_run p ts).how
          = closing_same ts (program_run p ts) (C.run (length p.sizes) q.procs (n - k) (0 + k) c)
          (0 + k + spent (counts p.procs + 2 * length p.mains + 10) (prices_of p ts)) (omega arith) (program_run p ts).how g.closing in
          let split : n ≡ k + (n - k) = omega arith in
          let seen : visits_of q n p ts ≡ visits (length p.sizes) q.procs (n - k) (0 + k) c =
          ap (λ (j : ℕ). visits_of q j p ts) split ∙ sees
          in
          let ends : copy_run q n p ts ≡ C.run (length p.sizes) q.procs (n - k) (0 + k) c =
          ap (λ (j : ℕ). copy_run q j p ts) split ∙ runs
          in
          record {
            visited = rw seen (sym (zero-add _) ∙ g.visited);
            meets = λ j v e.
                let u = g.same j v (rw seen at e) in
                record { taken = u.2 ∙ zero-add j; same = shown_same (program_run p (take j ts)) v.config u.0; used = omega (arith, u.1) };
            cheap = g.cheap;
            how = rw ends g.how;
            never = λ e. subst (Closing p ts (program_run p ts) (C.run (length p.sizes) q.procs (n - k) (0 + k) c)) (sym g.how ∙ ap (λ (r : C.Ran). r.how) (sym ends) ∙ e) closes;
            closing = rw ends closes;
            unused = rw ends (g.unused (program_run p ts).steps (omega arith));
          }

-- ---- the budget of demand 3 is enough

-- a price of at most 2n
abbrev pub most_price : ℕ
most_price = 2 * (limits concurrent).bytes

-- at most so many steps for each entry
abbrev pub most_steps : ℕ
most_steps = max_labels + 2 * (limits concurrent).threads + 10 + most_price

-- so many for all
room_small : (X : ℕ) (ts : List ℕ) → X ≤ most_steps → room X ts ≤ most_steps * length ts + 3
room_small X [] h = omega arith
room_small X (t ∷ ts) h = let r : room X ts ≤ most_steps * length ts + 3 = room_small X ts h in omega arith

-- DEMAND 3 OVER ANY PLACEMENT THAT KEEPS APART WHAT IS ON ONE CALL PATH, of a program that passes the rules.
pub demand : (p : Program Plain) (start : ℕ → ℕ) (R : ℕ) (D : Placed p.procs start R) (sound : Sound concurrent p) (ts : List ℕ) (n : ℕ)
    → length (table sequential (copy_by p start R)) ≤ (limits sequential).bytes → length ts ≤ max_entries → Each (λ t. t < length p.mains) ts
    → budget ≤ n
    → Agree (copy_by p start R) (table concurrent p) p ts n
demand p start R D sound ts n small brief below enough =
    let L : ℕ = counts p.procs in
    let X : ℕ = L + 2 * length p.mains + 10 + most_price in
    let r : room X ts ≤ most_steps * length ts + 3 = room_small X ts (omega (arith, sound.threads.high, sound.labels)) in
    agree p start R D sound X
    (bounded (world p start R D sound) p.mains L (zeroth p start R D sound) most_price
    (λ l q e. omega (arith, table_bytes sequential (copy_by p start R) l e))
    (omega (arith, sound.size)))
    ts n below (omega (arith, sound.threads.high))
