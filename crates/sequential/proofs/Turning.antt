-- The quick way through the loop of the sequential machine: one step, or several tests in a row that fail.
use Prim.Native.Nat.{ℕ, ◌+◌, ◌*◌, ◌-◌, ◌≤◌, ◌<◌}
use native.Mathlib.Omega.{arith}
use mathlib.Core.Path.{◌≡◌, refl, sym, ap, subst, ◌∙◌}
use mathlib.Core.Logic.{⊎_elim}
use mathlib.Core.List.{List}
use mathlib.Core.Bool.{Bool, true, false}
use lib.ListN.{get_or}
use mir.Val.{Fits}
use mir.Syntax.{w64}
use Rattle.value.specs.declared.Reason.{Reason}
use Rattle.value.proofs.Laws.Tests.{never}
use Rattle.decide.specs.declared.step.Step.{Step}
use Rattle.decide.specs.declared.step.Step.TheVariants as S
use Rattle.decide.specs.Decided.{Lies, DecidesAll, Tests}
use Rattle.engine.specs.Work.{frame_words}
use Rattle.engine.specs.declared.ends.End.TheVariants as E
use Rattle.quick.specs.declared.turn.Quick.{Quick}
use Rattle.quick.specs.declared.turn.Quick.TheVariants.{Assign, Read, Write, Holds, Fails, Call, Left}
use Rattle.quick.specs.Quick.{Turning, Turned, Turns, Row, none, more, steps_of}
use Rattle.sequential.specs.declared.machine.State.{State}
use Rattle.sequential.specs.declared.machine.Ran.{Ran}
use Rattle.sequential.specs.Sequential.{CarriesOut, Due, Facing, Faces, UsedUp, moved_to, ran_with, Runs}
use Rattle.sequential.specs.Words.{Means, assigns, reads, writes, holds, calls, Asked, one, several, DueWords, CarriesWords}
use Rattle.sequential.proofs.CarryingOut.{did_test}
use Rattle.sequential.proofs.Facing.{facing_poised, faces_act, used_other, present_above}
use Rattle.sequential.proofs.Running.{Going, facing_of, small, going_inside, going_few, step_due, step_on}
use Rattle.sequential.proofs.Running.{going_facing, going_blocked, going_due}

-- ---- what an answer stands for

-- one step that is decided, or a row of tests that fail
data Answered (t js ls ls' ss cs : List ℕ) (fb i left : ℕ) : Quick → Type 0 where
  single : {q : Quick} (x : Step) → Means q x → steps_of q ≡ 1 → DecidesAll t ls ls' fb i (Lies ss cs) x → Answered t js ls ls' ss cs fb i left q
  row : {k n : ℕ} → ls' ≡ ls → n ≤ left → Row t js ls ss cs fb i n k → Answered t js ls ls' ss cs fb i left (Fails k n)

answered : {t js ls ls' ss cs : List ℕ} {fb i left : ℕ} (q : Quick) → Turned t js ls ls' ss cs fb i left q → 0 < steps_of q
    → Answered t js ls ls' ss cs fb i left q
answered (Assign x w n) (v, h, D) l = single (S.Assign x v n) (assigns h) refl D
answered (Read x a k w n) (v, h, D) l = single (S.Read x a k v n) (reads h) refl D
answered (Write a k c w n) (v, h, D) l = single (S.Write a k c v n) (writes h) refl D
answered (Holds n) D l = single (S.Test true n) holds refl D
answered (Fails k n) (e, some, few, R) l = row e few R
answered (Call m n) D l = single (S.Call m n) calls refl D
answered Left D l = absurd (omega arith)

-- none of them blocks
means_goes : {q : Quick} {x : Step} → Means q x → (y : Reason) → x ≡ S.Blocked y → ⊥
means_goes (assigns h) y e = let z : ◌≡◌ {A = ℕ} 0 1 = cc in absurd (omega arith)
means_goes (reads h) y e = let z : ◌≡◌ {A = ℕ} 0 1 = cc in absurd (omega arith)
means_goes (writes h) y e = let z : ◌≡◌ {A = ℕ} 0 1 = cc in absurd (omega arith)
means_goes holds y e = let z : ◌≡◌ {A = ℕ} 0 1 = cc in absurd (omega arith)
means_goes calls y e = let z : ◌≡◌ {A = ℕ} 0 1 = cc in absurd (omega arith)

-- a test blocks not
test_goes : {j : ℕ} (y : Reason) → S.Test false j ≡ S.Blocked y → ⊥
test_goes y e = let z : ◌≡◌ {A = ℕ} 0 1 = cc in absurd (omega arith)

-- no select is a test
tests_no_select : (t : List ℕ) (i : ℕ) → Tests t i → get_or t i 0 ≡ 0x27 → ⊥
tests_no_select t i T z = ⊎_elim (λ e. omega (arith, e, z)) (λ e. omega (arith, e, z)) T

-- no more steps than are left
turned_most : {t js ls ls' ss cs : List ℕ} {fb i left r : ℕ} {q : Quick} → Turns t js ls ls' ss cs fb i left q → 1 ≤ left → r ≡ steps_of q → r ≤ left
turned_most {t} {js} {ls} {ls'} {ss} {cs} {fb} {i} {left} {r} {q} T some e = rw e (go q T.turned)
  where
    go : (q : Quick) → Turned t js ls ls' ss cs fb i left q → steps_of q ≤ left
    go (Assign x w n) D = some
    go (Read x a k w n) D = some
    go (Write a k c w n) D = some
    go (Holds n) D = some
    go (Fails k n) D = D.2
    go (Call m n) D = some
    go Left D = omega arith

-- ---- the run

module _ {t : List ℕ} {records : ℕ} {ts js ss ls₀ bs₀ cs₀ : List ℕ} {h n : ℕ} {lent bs cs es : List ℕ} where
  -- a test that fails at i is one step, and only the position is another
  test_on : {ls : List ℕ} (s : State) {k i j : ℕ} → Going t records ts js ss ls₀ bs₀ cs₀ h n lent ls bs cs es (moved_to s i s.depth s.events) k
      → (s.depth ≡ 0 → ⊥) → Tests t i → DecidesAll t ls ls (frame_words * (s.depth - 1)) i (Lies ss cs) (S.Test false j) → k < n
      → Going t records ts js ss ls₀ bs₀ cs₀ h n lent ls bs cs es (moved_to s (get_or js i 0) s.depth s.events) (k + 1)
  test_on {ls} s {k} {i} {j} H deep T D l =
      let now : State = moved_to s i s.depth s.events in
      let other : get_or t i 0 ≡ 0x27 → ⊥ = tests_no_select t i T in
      let U : UsedUp t ts now false = used_other other in
      let F : Faces t ts ss ls cs now ls (S.Test false j) = faces_act (record { other = other }) (going_inside H deep) (omega (arith, deep)) D in
      let K : CarriesOut t records js h ls bs cs es now (S.Test false j) ls bs cs es (moved_to s (get_or js i 0) s.depth s.events) =
      did_test refl (record { yes = λ z. absurd (never z); no = λ z. refl }) refl
      in
      step_on H deep (λ z. omega (arith, z, l)) U refl F test_goes K

  -- the same, counted otherwise
  recounted : {ls : List ℕ} {s : State} {k m : ℕ} → k ≡ m → Going t records ts js ss ls₀ bs₀ cs₀ h n lent ls bs cs es s k
      → Going t records ts js ss ls₀ bs₀ cs₀ h n lent ls bs cs es s m
  recounted {ls} {s} e G = subst (λ (z : ℕ). Going t records ts js ss ls₀ bs₀ cs₀ h n lent ls bs cs es s z) e G

  -- a row of m tests that fail is m steps
  row_on : {ls : List ℕ} {s : State} {k m to : ℕ} → Going t records ts js ss ls₀ bs₀ cs₀ h n lent ls bs cs es s k → (s.depth ≡ 0 → ⊥)
      → Row t js ls ss cs (frame_words * (s.depth - 1)) s.at m to → k + m ≤ n
      → Going t records ts js ss ls₀ bs₀ cs₀ h n lent ls bs cs es (moved_to s to s.depth s.events) (k + m)
  row_on {ls} {s} {k} G deep none l = recounted {s = s} (omega arith) G
  row_on {ls} {s} {k} G deep (more {n = m} R T D) l =
      recounted (omega arith) (test_on s (row_on G deep R (omega arith)) deep T D (omega arith))

module _ {t : List ℕ} {records : ℕ} {ts js ss ls₀ bs₀ cs₀ : List ℕ} {h n : ℕ} {lent ls bs cs es : List ℕ} {s : State} {k : ℕ}
    (G : Going t records ts js ss ls₀ bs₀ cs₀ h n lent ls bs cs es s k) (deep : s.depth ≡ 0 → ⊥) where
  -- what the quick way asks
  pub going_turning : Turning t ls ss cs (frame_words * (s.depth - 1)) s.at
  going_turning =
      let q = G.start in
      let g = G.from q in
      record {
        inside = going_inside G deep;
        small = small q g deep;
        poised = λ o. facing_poised (facing_of q g deep (λ z. absurd (o z))) (record { other = o }) (going_inside G deep);
        kept = record { memory = g.config.memory; lies = record { bases = rw g.present.sizes q.loaded.starts; holds = g.present.memory } };
        full = g.present.full;
      }

  -- at least one step is left
  pub going_left : (k ≡ n → ⊥) → 1 ≤ n - k
  going_left under = omega (arith, under, G.low)

  -- one step more fits the count, and leaves fewer
  pub step_fit : (k ≡ n → ⊥) → Fits w64 (k + 1)
  step_fit under = record { fits = omega (arith, under, G.low, G.budget) }

  pub step_less : (k ≡ n → ⊥) → n - (k + 1) < n - k
  step_less under = omega (arith, under, G.low)

  -- its frame is among the words
  pub going_base : Fits w64 (frame_words * (s.depth - 1))
  going_base = record { fits = omega (arith, going_few G deep) }

  module _ {ls' : List ℕ} {q : Quick} (T : Turns t js ls ls' ss cs (frame_words * (s.depth - 1)) s.at (n - k) q) where
    -- words of the frame above are no part of the state
    pub going_above : Going t records ts js ss ls₀ bs₀ cs₀ h n lent ls' bs cs es s k
    going_above = record {
      start = G.start;
      from = λ q. record {
        config = (G.from q).config;
        present = present_above q.loaded.sound (G.from q).present T.beside (omega (arith, deep));
        same = (G.from q).same;
      };
      low = G.low;
      counted = G.counted;
      entries = G.entries;
      budget = G.budget;
    }

    -- where it is left, the general way goes on from there
    module _ {u : Bool} (under : k ≡ n → ⊥) (U : UsedUp t ts s u) (e : u ≡ false) where
      pub left_facing : Facing t ts ss ls' cs s
      left_facing = going_facing going_above deep under U e

      module _ {ls'' : List ℕ} {x : Step} (F : Faces t ts ss ls' cs s ls'' x) where
        pub left_blocked : {a : Ran} {y : Reason} → x ≡ S.Blocked y → a ≡ ran_with (E.Blocked y) k s
            → Runs t records ts js ss ls₀ bs₀ cs₀ h n lent cs es a
        left_blocked z f = going_blocked going_above deep under U e F z f

        module _ (on : (y : Reason) → x ≡ S.Blocked y → ⊥) where
          pub left_due : Due t records js ls'' bs cs es s x
          left_due = going_due going_above deep under U e F on

          pub left_on : {ls''' bs' cs' es' : List ℕ} {s' : State} → CarriesOut t records js h ls'' bs cs es s x ls''' bs' cs' es' s'
              → Going t records ts js ss ls₀ bs₀ cs₀ h n lent ls''' bs' cs' es' s' (k + 1)
          left_on K = step_on going_above deep under U e F on K

    module _ {r : ℕ} (on : 0 < r) (count : r ≡ steps_of q) (under : k ≡ n → ⊥) where
      -- no select stands there
      other : get_or t s.at 0 ≡ 0x27 → ⊥
      other z = omega (arith, on, count, ap steps_of (T.other z))

      used : UsedUp t ts s false
      used = used_other other

      faces : {x : Step} → DecidesAll t ls ls' (frame_words * (s.depth - 1)) s.at (Lies ss cs) x → Faces t ts ss ls cs s ls' x
      faces D = faces_act (record { other = other }) (going_inside G deep) (omega (arith, deep)) D

      -- no more steps than are left
      few : k + r ≤ n
      few = omega (arith, turned_most T (going_left under) count, G.low)

      -- the count fits its word, and fewer are left
      pub words_fit : Fits w64 (k + r)
      words_fit = record { fits = omega (arith, few, G.budget) }

      pub words_less : n - (k + r) < n - k
      words_less = omega (arith, few, on)

      -- what it stands for is due
      pub going_asked : DueWords t records js ls' bs cs es s q
      going_asked =
          let g = G.from G.start in
          record {
            asked = go (answered q T.turned (omega (arith, on, count)));
            some = omega (arith, deep);
            few = going_few G deep;
            small = small G.start g deep;
            long = T.beside.long ∙ g.present.long;
            full = g.present.full;
            counted = omega (arith, G.low, G.counted, under, G.budget);
          }
        where
          go : {q : Quick} → Answered t js ls ls' ss cs (frame_words * (s.depth - 1)) s.at (n - k) q → Asked t records js ls' bs cs es s q
          go (single x m e D) = one x m (step_due G deep under used refl (faces D) (means_goes m) G.start)
          go (row e l R) = several

      module _ {ls'' bs' cs' es' : List ℕ} {s' : State} where
        -- one step was made
        one_on : {p : Quick} (x : Step) → Means p x → steps_of p ≡ 1 → DecidesAll t ls ls' (frame_words * (s.depth - 1)) s.at (Lies ss cs) x
            → CarriesWords t records js h ls' bs cs es s p ls'' bs' cs' es' s'
            → Going t records ts js ss ls₀ bs₀ cs₀ h n lent ls'' bs' cs' es' s' (k + steps_of p)
        one_on x m e D K = recounted (ap (k +◌) (sym e)) (step_on G deep under used refl (faces D) (means_goes m) (K.carried x m))

        -- or several
        several_on : {to m : ℕ} → ls' ≡ ls → m ≤ n - k → Row t js ls ss cs (frame_words * (s.depth - 1)) s.at m to
            → CarriesWords t records js h ls' bs cs es s (Fails to m) ls'' bs' cs' es' s'
            → Going t records ts js ss ls₀ bs₀ cs₀ h n lent ls'' bs' cs' es' s' (k + m)
        several_on {to} {m} e l R K =
            let same = K.passed to m refl in
            let H : Going t records ts js ss ls₀ bs₀ cs₀ h n lent ls bs cs es (moved_to s to s.depth s.events) (k + m) =
            row_on G deep R (omega (arith, l, G.low))
            in
            rw (same.0, e, same.1, same.2, same.3, same.4) H

        made : {p : Quick} → Answered t js ls ls' ss cs (frame_words * (s.depth - 1)) s.at (n - k) p
            → CarriesWords t records js h ls' bs cs es s p ls'' bs' cs' es' s'
            → Going t records ts js ss ls₀ bs₀ cs₀ h n lent ls'' bs' cs' es' s' (k + steps_of p)
        made (single x m e D) K = one_on x m e D K
        made (row e l R) K = several_on e l R K

        -- so many steps were made
        pub going_words : CarriesWords t records js h ls' bs cs es s q ls'' bs' cs' es' s'
            → Going t records ts js ss ls₀ bs₀ cs₀ h n lent ls'' bs' cs' es' s' (k + r)
        going_words K = recounted (ap (k +◌) (sym count)) (made (answered q T.turned (omega (arith, on, count))) K)

-- one law for each way
pub ruleset turning_ways = (going_turning, going_left, going_base, going_above, going_asked)
