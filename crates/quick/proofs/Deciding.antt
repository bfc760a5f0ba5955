-- Quick calls, and the quick step of any instruction: one law for each way.
use Prim.Native.Nat.{ℕ, ◌+◌, ◌≤◌, ◌<◌}
use native.Mathlib.Omega.{arith}
use mathlib.Core.Path.{◌≡◌, refl, sym, ap, subst, ◌∙◌}
use mathlib.Core.Logic.{⊎_elim}
use mathlib.Core.List.{List}
use lib.ListN.{length, get_or, set}
use Rattle.basics.specs.Places.{number_at}
use Rattle.format.specs.Decode.{max_depth}
use Rattle.engine.specs.Work.{Beside, frame_words}
use Rattle.engine.specs.Evaluated.{valued, Evaluates}
use Rattle.engine.specs.Laws.Work.{beside_same}
use Rattle.decide.specs.Decided.{Poised, Passable, Tests}
use Rattle.decide.proofs.Deciding as D
use Rattle.decide.proofs.Passing.{Passing, passing_start, passing_ready, passing_word, passing_long, passing_more, passing_all}
use Rattle.jumps.specs.Jumps.{positions}
use Rattle.quick.specs.declared.brief.Worded.{Worded}
use Rattle.quick.specs.declared.turn.Quick.{Quick}
use Rattle.quick.specs.declared.turn.Quick.TheVariants.{Call, Left}
use Rattle.quick.specs.Brief.{answer_in, worded, Standing, LocalAt, NumberAt, Sure}
use Rattle.quick.specs.Quick.{Turning, Turns, Assigns, Writing, Writes, Reading, Reads, Testing}
use Rattle.quick.specs.Quick.{Chooses, Calls}
use Rattle.quick.proofs.Turning.{sure_eval, kept_small}
use Rattle.quick.proofs.Wording as W

-- ---- "call procedure m"

-- k arguments were passed, and the next stands at a
pub record Calling (t ls ls' : List ℕ) (fb i n a k : ℕ) : Type 0 where
  pub poised : Poised t ls fb i
  pub mark : get_or t i 0 ≡ 0x25
  pub count : n ≡ get_or t (i + 3) 0
  pub passing : Passing t ls ls' fb (i + 4) n a k

module _ {t ls ls' : List ℕ} {fb i n a k : ℕ} where
  -- its arguments stand there
  passable : Calling t ls ls' fb i n a k → Passable t ls fb (i + 4) n
  passable C = D.call_ready C.poised C.mark C.count

  pub calling_standing : Calling t ls ls' fb i n a k → k < n → Standing t ls' fb a
  calling_standing C l = record { d = max_depth; ready = passing_ready (passable C) C.passing l }

  pub calling_inside : Calling t ls ls' fb i n a k → k < n → a < length t
  calling_inside C l = W.standing_inside (calling_standing C l)

  pub calling_word : Calling t ls ls' fb i n a k → k < n → fb + frame_words + k < length ls'
  calling_word C l = passing_word (passable C) C.passing l

  pub calling_long : Calling t ls ls' fb i n a k → length ls' ≡ length ls
  calling_long C = passing_long C.passing

  pub calling_more : {e : Worded} → Calling t ls ls' fb i n a k → k < n → Sure t ls' fb a e → (e.word ≡ 0 → ⊥)
      → Calling t ls (set ls' (fb + frame_words + k) e.word) fb i n e.next (k + 1)
  calling_more {e} C l s z = record {
    poised = C.poised;
    mark = C.mark;
    count = C.count;
    passing = passing_more C.passing l (sure_eval s z) refl (record { word = e.word; holds = (s.shows z).holds; stored = refl });
  }

  -- at most words of the frame above are others
  calling_beside : Calling t ls ls' fb i n a k → Beside ls ls' (fb + frame_words) (fb + frame_words + frame_words)
  calling_beside C =
      let b = C.passing.beside in
      record { long = b.long; below = b.below; above = λ m h. b.above m (omega (arith, C.passing.within, (passable C).few)) }

  pub calls_left : Calling t ls ls' fb i n a k → Calls t ls ls' fb i Left
  calls_left C = record { beside = calling_beside C; turned = λ js bs cs left. tt }

  pub calls_some : {m : ℕ} → Calling t ls ls' fb i n a k → n ≤ k → m ≡ number_at 2 t (i + 1) → Calls t ls ls' fb i (Call m a)
  calls_some {m} C l e = record {
    beside = calling_beside C;
    turned = λ js bs cs left. D.decides_call (D.call_some C.mark C.count (passing_all C.passing l) refl e);
  }

module _ {t ls : List ℕ} {fb i : ℕ} where
  pub calling_start : {n : ℕ} → Poised t ls fb i → get_or t i 0 ≡ 0x25 → n ≡ get_or t (i + 3) 0 → Calling t ls ls fb i n (i + 4) 0
  calling_start h q e = record { poised = h; mark = q; count = e; passing = passing_start (D.call_ready h q e) }

pub ruleset calling_ways = (D.call_inside, calling_start, calling_standing, calling_inside, calling_word, calling_long, calling_more, calls_left, calls_some)

-- ---- any instruction

module _ {t ls bs cs : List ℕ} {fb i : ℕ} (h : Turning t ls bs cs fb i) where
  -- what stands there, by its mark
  at_assign : get_or t i 0 ≡ 0x20 → Poised t ls fb i
  at_assign e = h.poised (λ q. omega arith)

  pub turning_assign : get_or t i 0 ≡ 0x20 → Standing t ls fb (i + 2)
  turning_assign e = record { d = max_depth; ready = D.assign_ready (at_assign e) e }

  pub turning_second : get_or t i 0 ≡ 0x20 → i + 2 < length t
  turning_second e = W.standing_inside {t = t} {ls = ls} {fb = fb} (record { d = max_depth; ready = D.assign_ready (at_assign e) e })

  pub turning_target : get_or t i 0 ≡ 0x20 → i + 1 < length t
  turning_target e = D.assign_inside (at_assign e) e

  pub turning_inside : i < length t
  turning_inside = h.inside

  pub turning_low : i < positions
  turning_low = omega (arith, h.inside, h.small)

  pub turning_call : get_or t i 0 ≡ 0x25 → Poised t ls fb i
  turning_call e = h.poised (λ q. omega arith)

  turning_poised : Tests t i → Poised t ls fb i
  turning_poised m = h.poised (λ q. ⊎_elim (λ e. omega arith) (λ e. omega arith) m)

  pub turning_testing : Tests t i → Testing t ls fb i
  turning_testing m = record {
    poised = turning_poised m;
    mark = m;
    inside = W.standing_inside {t = t} {ls = ls} {fb = fb} (record { d = max_depth; ready = D.test_ready (turning_poised m) m });
    small = h.small;
  }

  pub turning_callee : get_or t i 0 ≡ 0x25 → i + 4 ≤ length t
  turning_callee e = D.call_inside (turning_call e) e

  -- no other mark is left
  pub turning_other : (get_or t i 0 ≡ 0x27 → ⊥) → (get_or t i 0 ≡ 0x25 → ⊥) → (get_or t i 0 ≡ 0x00 → ⊥) → (get_or t i 0 ≡ 0x20 → ⊥) → (get_or t i 0 ≡ 0x21 → ⊥)
      → (get_or t i 0 ≡ 0x22 → ⊥) → Testing t ls fb i
  turning_other n n₁ n₂ n₃ n₄ n₅ = turning_testing (D.act_tests (h.poised n) n₁ n₂ n₃ n₄ n₅)

  -- "y[o] := e"
  pub turning_offset : get_or t i 0 ≡ 0x21 → i + 2 < length t
  turning_offset e = W.standing_inside {t = t} {ls = ls} {fb = fb} (record { d = max_depth; ready = D.offset_ready (h.poised (λ q. omega arith)) e })

  pub turning_source : get_or t i 0 ≡ 0x21 → get_or t (i + 2) 0 ≡ 5 → Standing t ls fb (i + 4)
  turning_source e f =
      let to : i + 2 + 2 ≡ i + 4 = omega arith in
      subst (Standing t ls fb) to (record { d = max_depth; ready = D.source_ready (h.poised (λ q. omega arith)) e (W.local_eval max_depth f refl) })

  pub turning_value : get_or t i 0 ≡ 0x21 → get_or t (i + 2) 0 ≡ 5 → i + 4 < length t
  turning_value e f = W.standing_inside (turning_source e f)

  pub turning_writing : {e : Worded} → get_or t i 0 ≡ 0x21 → get_or t (i + 2) 0 ≡ 5 → Sure t ls fb (i + 4) e → Writing t ls bs fb i e
  turning_writing e f s = record { poised = h.poised (λ q. omega arith); mark = e; inside = W.standing_inside (turning_source e f); offset = f; source = s; small = kept_small h.kept h.full }

  -- "x := y[o]"
  reading_standing : get_or t i 0 ≡ 0x22 → Standing t ls fb (i + 3)
  reading_standing e = record { d = max_depth; ready = D.read_ready (h.poised (λ q. omega arith)) e }

  pub turning_index : get_or t i 0 ≡ 0x22 → i + 3 < length t
  turning_index e = W.standing_inside (reading_standing e)

  pub turning_local : get_or t i 0 ≡ 0x22 → get_or t (i + 3) 0 ≡ 5 → LocalAt t ls fb (i + 4)
  turning_local e f = let to : i + 3 + 1 ≡ i + 4 = omega arith in subst (LocalAt t ls fb) to (W.local_room (reading_standing e) f)

  pub turning_number : get_or t i 0 ≡ 0x22 → get_or t (i + 3) 0 ≡ 1 → i + 4 + 4 ≤ length t
  turning_number e f = omega (arith, W.number_room (reading_standing e) f)

  turning_reading : (o n : ℕ) → get_or t i 0 ≡ 0x22 → Evaluates t ls fb (i + 3) max_depth (valued (answer_in o) n) → Reading t ls bs cs fb i o n
  turning_reading o n e E = record { poised = h.poised (λ q. omega arith); mark = e; inside = W.standing_inside (reading_standing e); offset = E; kept = h.kept; small = kept_small h.kept h.full }

  pub reading_local : {o : ℕ} → get_or t i 0 ≡ 0x22 → get_or t (i + 3) 0 ≡ 5 → o ≡ get_or ls (fb + get_or t (i + 4) 0) 0 → Reading t ls bs cs fb i o (i + 5)
  reading_local {o} e f q =
      let fourth : i + 3 + 1 ≡ i + 4 = omega arith in
      let fifth : i + 3 + 2 ≡ i + 5 = omega arith in
      turning_reading o (i + 5) e
      (subst (λ j. Evaluates t ls fb (i + 3) max_depth (valued (answer_in o) j)) fifth
      (W.local_eval max_depth f (q ∙ ap (λ j. get_or ls (fb + get_or t j 0) 0) (sym fourth))))

  pub reading_number : {o : ℕ} → get_or t i 0 ≡ 0x22 → get_or t (i + 3) 0 ≡ 1 → NumberAt t (i + 4) o → Reading t ls bs cs fb i o (i + 8)
  reading_number {o} e f N =
      let fourth : i + 3 + 1 ≡ i + 4 = omega arith in
      let eighth : i + 3 + 5 ≡ i + 8 = omega arith in
      let s : Sure t ls fb (i + 3) (worded o (i + 3 + 5)) = W.sure_number f (subst (λ j. NumberAt t j o) (sym fourth) N) in
      turning_reading o (i + 8) e
      (subst (λ j. Evaluates t ls fb (i + 3) max_depth (valued (answer_in o) j)) eighth (s.words.says (λ z. omega (arith, N.same)) max_depth))

-- ---- what it answers

module _ {t js ls bs cs : List ℕ} {fb i left : ℕ} where
  pub turns_left : Turns t js ls ls bs cs fb i left Left
  turns_left = record { beside = beside_same; other = λ e. refl; turned = tt }

  pub turns_assign : {e : Worded} {q : Quick} → get_or t i 0 ≡ 0x20 → Sure t ls fb (i + 2) e → Assigns t i e q → Turns t js ls ls bs cs fb i left q
  turns_assign m s A = record { beside = beside_same; other = λ z. absurd (omega (arith, m, z)); turned = A.turned js ls bs cs fb left m s }

  pub turns_write : {q : Quick} → get_or t i 0 ≡ 0x21 → Writes t ls bs fb i q → Turns t js ls ls bs cs fb i left q
  turns_write m A = record { beside = beside_same; other = λ z. absurd (omega (arith, m, z)); turned = A.turned js cs left }

  pub turns_read : {q : Quick} → get_or t i 0 ≡ 0x22 → Reads t ls bs cs fb i q → Turns t js ls ls bs cs fb i left q
  turns_read m A = record { beside = beside_same; other = λ z. absurd (omega (arith, m, z)); turned = A.turned js left }

  pub turns_choose : {q : Quick} → (get_or t i 0 ≡ 0x27 → ⊥) → Chooses t js ls fb i left q → Turns t js ls ls bs cs fb i left q
  turns_choose n A = record { beside = beside_same; other = λ z. absurd (n z); turned = A.turned bs cs }

  pub turns_call : {ls' : List ℕ} {q : Quick} → get_or t i 0 ≡ 0x25 → Calls t ls ls' fb i q → Turns t js ls ls' bs cs fb i left q
  turns_call m A = record { beside = A.beside; other = λ z. absurd (omega (arith, m, z)); turned = A.turned js bs cs left }

pub ruleset turning_ways = (
  turning_assign,
  turning_second,
  turning_target,
  turning_inside,
  turning_low,
  turning_call,
  turning_callee,
  turning_value,
  turning_testing,
  turning_other,
  turning_offset,
  turning_source,
  turning_writing,
  turning_index,
  turning_local,
  turning_number,
  reading_local,
  reading_number,
  turns_left,
  turns_assign,
  turns_write,
  turns_read,
  turns_choose,
  turns_call,
)
