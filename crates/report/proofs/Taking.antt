-- The step of an instruction that was decided, way by way.
use Prim.Native.Nat.{ℕ, ◌+◌, ◌-◌, ◌≤◌, ◌<◌}
use native.Mathlib.Omega.{arith}
use mathlib.Core.Path.{◌≡◌, refl, sym, ap, subst, ◌∙◌}
use mathlib.Core.List.{List, [], ◌∷◌, ◌++◌, append-nil, map}
use mathlib.Core.Bool.{Bool}
use lib.ListN.{length, get_or}
use Rattle.value.specs.Try.{Try, has, lacks}
use Rattle.std.specs.Prelude.{Result, Ok, Err}
use Rattle.value.specs.declared.Reason.{Reason}
use Rattle.value.specs.declared.Value.{Value}
use Rattle.value.proofs.Laws.Tries.{has_inj, lacks_inj, lacking}
use Rattle.format.specs.Encode.{instr}
use Rattle.format.specs.Labels.{labelled}
use Rattle.decide.specs.declared.step.Step.{Step}
use Rattle.decide.specs.declared.step.Step.TheVariants as S
use Rattle.semantics.specs.Memory.{evals, Event}
use Rattle.semantics.specs.Step.{Stack, Moved}
use Rattle.semantics.specs.Threads.{Atomic}
use Rattle.semantics.specs.Calls.{unlabelled}
use Rattle.engine.specs.Work.{frame_words, Beside, Clears}
use Rattle.engine.specs.Laws.Work.{framed_below}
use Rattle.decide.specs.Decided.{act_end, args_of, decided, Right, Poised, Kept, Lies, DecidesAll}
use Rattle.decide.specs.Decided as D
use Rattle.decide.specs.Laws.Deciding.{decided_right, evals_length}
use Rattle.atomic.specs.Doing.{Works, carried, end_of, Carrying, Carries}
use Rattle.atomic.specs.Doing as W
use Rattle.atomic.specs.declared.block.Done.{Done}
use Rattle.atomic.specs.Laws.Threading.{beside_wide}
use Rattle.atomic.proofs.Inside.{came, stopped, beside_again}
use Rattle.concurrent.specs.Laws.Leading.{Called, Leads}
use Rattle.concurrent.proofs.Turning.{step_fits, step_past, framed_called, call_count}
use Rattle.report.proofs.Turning.{Turning, doing, Went, Came, Calls, Stays, IsTest, Ended, ended, turn_inside, asked}

-- all steps but a test and a call
pub record Straight (u : Step) : Type 0 where
  pub no_test : (q : Bool) (j : ℕ) → u ≡ S.Test q j → ⊥
  pub no_call : (q j : ℕ) → u ≡ S.Call q j → ⊥

module _ {t : List ℕ} {thread fb : ℕ} {bs : List ℕ} {i : ℕ} {ls cs o : List ℕ} {n : ℕ} where
  -- a step that was carried out
  record Carried (h : Turning t thread fb bs i ls cs o n) (u : Step) (b : Atomic) : Type 0 where
    pub new : List Event
    pub log : b.events ≡ h.a.events ++ map unlabelled new
    pub code : (s : Stack ℕ)
        → D.carried (labelled h.p).procs thread h.running.tag h.m h.a.env h.running.tag h.running.instr h.running.rest s
        h.a.memory u
        ≡ has (record { stack = record { proc = h.m; env = b.env; code = h.running.rest } ∷ s; memory = b.memory; events = new })
    pub ends : end_of u ≡ i + length (instr h.running.instr)

  carried_is : (h : Turning t thread fb bs i ls cs o n) (u : Step) {b : Atomic} → Ended i h.running.instr u → carried thread 0 u h.a ≡ has b → Carried h u b
  carried_is h (S.Assign x v j) m e = rw (← has_inj e) (record { new = []; log = sym (append-nil h.a.events); code = λ s. refl; ends = m })
  carried_is h (S.Read x l k v j) m e = rw (← has_inj e) (record { new = _; log = refl; code = λ s. refl; ends = m })
  carried_is h (S.Write l k d v j) m e = rw (← has_inj e) (record { new = _; log = refl; code = λ s. refl; ends = m })
  carried_is h (S.Test q j) m e = lacking e
  carried_is h (S.Call q j) m e = lacking e
  carried_is h S.Return m e = lacking e
  carried_is h (S.Select k d j) m e = lacking e
  carried_is h (S.Blocked why) m e = lacking e

  module _ (y : get_or t i 0 ≡ 0x26 → ⊥) where
    -- it can be decided
    pub turn_poised : Turning t thread fb bs i ls cs o n → Poised t ls fb i
    turn_poised h =
        let q = asked h y in
        record {
          env = h.a.env;
          framed = h.works.framed;
          act = q.act;
          j = act_end i h.running.instr;
          here = q.here;
          narrow = h.works.small;
          room = h.works.room;
        }

    -- in its memory
    turn_lies : (h : Turning t thread fb bs i ls cs o n) → Lies bs cs h.a.memory
    turn_lies h = record { bases = h.works.bases; holds = h.works.holds }

    pub turn_kept : Turning t thread fb bs i ls cs o n → Kept bs cs
    turn_kept h = record { memory = h.a.memory; lies = turn_lies h }

    module _ {ls₁ : List ℕ} {u : Step} (E : DecidesAll t ls ls₁ fb i (Lies bs cs) u) (h : Turning t thread fb bs i ls cs o n) where
      -- what it does with the code
      abbrev acted : Stack ℕ → Step → Try (Moved ℕ)
      acted s = D.carried (labelled h.p).procs thread h.running.tag h.m h.a.env h.running.tag h.running.instr h.running.rest s h.a.memory

      -- what the step is
      this : u ≡ decided h.a.env h.a.memory (asked h y).act (act_end i h.running.instr)
      unfolding turn_poised
      this = E.decides.step (turn_poised h) h.a.memory (turn_lies h)

      -- where it ends
      pub ending : Ended i h.running.instr u
      ending =
          subst (Ended i h.running.instr) (sym this) (ended i h.a.env h.a.memory h.running.instr (asked h y).act (asked h y).acts)

      -- where it leads
      leading : Leads h.p h.m h.a.env h.running.tag h.running.instr h.running.rest u
      leading = subst (Leads h.p h.m h.a.env h.running.tag h.running.instr h.running.rest) (sym this) (asked h y).leads

      -- what is so
      right : Right h.a.env h.a.memory (asked h y).act (act_end i h.running.instr) u
      right =
          subst (Right h.a.env h.a.memory (asked h y).act (act_end i h.running.instr)) (sym this)
          (decided_right h.a.env h.a.memory (asked h y).act (act_end i h.running.instr))

      -- what the code does
      acts : (s : Stack ℕ) → doing h ls cs o s ≡ acted s u
      acts s = (asked h y).code s ∙ ap (acted s) (sym this)

      -- only words of the frame above are others
      above : Beside ls ls₁ (fb + frame_words) (fb + frame_words + frame_words)
      unfolding turn_poised
      above = beside_wide (E.passes.beside (turn_poised h)) (omega arith) (omega (arith, (asked h y).few))

      -- all is at work as before
      working : Works fb bs h.es ls₁ cs o n h.a
      working = record {
        framed = framed_below above (omega (arith, h.works.small)) h.works.framed;
        room = omega (arith, h.works.room, above.long);
        small = h.works.small;
        holds = h.works.holds;
        bases = h.works.bases;
        logged = h.works.logged;
      }

      -- it blocks
      pub turn_stays : {why : Reason} → u ≡ S.Blocked why → Stays h ls₁ cs o why
      turn_stays e = record {
        code = λ s. acts s ∙ ap (acted s) e;
        works = working;
        beside = beside_wide above (omega arith) (omega arith);
      }

      -- a test
      pub turn_came : {q : Bool} {k : ℕ} → u ≡ S.Test q k → Came h ls₁ cs o q × (k ≡ act_end i h.running.instr) × IsTest h.running.instr
      turn_came e =
          let m = subst (Ended i h.running.instr) e ending in (
            record { code = λ s. acts s ∙ ap (acted s) e; works = working; beside = beside_wide above (omega arith) (omega arith) },
            m.0,
            m.1,
          )

      -- a call: its count of arguments stands there
      call_here : {q k : ℕ} → u ≡ S.Call q k → (i + 4 ≤ length t) × (get_or t (i + 3) 0 ≡ length (args_of (asked h y).act))
      call_here e =
          let r = subst (Right h.a.env h.a.memory (asked h y).act (act_end i h.running.instr)) e right in
          call_count t i (length h.a.env) (asked h y).act (act_end i h.running.instr) (asked h y).here r.1

      pub call_byte : {q k : ℕ} → u ≡ S.Call q k → i + 3 < length t
      call_byte e = omega (arith, call_here e)

      -- there is room for its locals
      pub call_room : {q k b : ℕ} → u ≡ S.Call q k → b ≡ get_or t (i + 3) 0 → fb + frame_words + b ≤ fb + frame_words + frame_words
      call_room e f = omega (arith, call_here e, (asked h y).few)

      -- and a frame above
      pub call_above : fb + frame_words + frame_words ≤ length ls₁
      call_above = omega (arith, h.works.room, above.long)

      -- those that are no arguments are not set
      pub turn_calls : {q k b : ℕ} {ls₂ : List ℕ} → u ≡ S.Call q k → b ≡ get_or t (i + 3) 0
          → Clears ls₁ ls₂ (fb + frame_words + b) (fb + frame_words + frame_words)
          → Calls h ls₂ cs o q × (k ≡ i + length (instr h.running.instr))
      unfolding turn_poised
      turn_calls {q} {k} {b} {ls₂} e f C =
          let w : Called h.p h.m h.a.env h.running.instr q =
          (subst (Leads h.p h.m h.a.env h.running.tag h.running.instr h.running.rest) e leading).1
          in
          let vs : List Value = w.values in
          let args : evals h.a.env (args_of (asked h y).act) ≡ has vs = ap (evals h.a.env) (asked h y).args ∙ w.args in
          let small = h.params q w.proc w.found in
          let same : b ≡ length vs = f ∙ (call_here e).1 ∙ sym (evals_length h.a.env (args_of (asked h y).act) args) in
          let cleared : Beside ls₁ ls₂ (fb + frame_words) (fb + frame_words + frame_words) = beside_wide C.beside (omega arith) (omega arith) in (
            record {
              called = w;
              code = λ s c. acts s ∙ ap (acted s) e ∙ rw (w.args, w.found, c);
              works = record {
                framed = framed_below cleared (omega (arith, h.works.small)) working.framed;
                room = omega (arith, h.works.room, above.long, cleared.long);
                small = h.works.small;
                holds = h.works.holds;
                bases = h.works.bases;
                logged = h.works.logged;
              };
              above =
                  framed_called vs w.proc.locals (E.passes.passed (turn_poised h) vs args) (omega (arith, w.params)) (omega arith)
                  (omega (arith, h.works.room, above.long)) (rw same at C);
              beside = beside_wide (beside_again above cleared) (omega arith) (omega arith);
            },
            subst (Ended i h.running.instr) e ending,
          )

      -- a step that can be carried out
      pub turn_carrying : Carrying fb u ls₁ cs o n
      turn_carrying = record {
        a = h.a;
        bs = bs;
        es = h.es;
        works = working;
        fits = step_fits t i h.a (asked h y).act (act_end i h.running.instr) (asked h y).here u right;
        few = omega (arith, h.few, turn_inside h);
      }

      module _ {ls' cs' o' : List ℕ} {r : Result Done Reason} (C : Carries thread 0 fb u ls₁ cs o n ls' cs' o' r) where
        -- how it went
        went : W.Went fb (end_of u - 1) (end_of u) bs h.es ls₁ n (length h.a.env) ls' cs' o' (carried thread 0 u h.a) r
        unfolding turn_carrying
        went =
            C.carries turn_carrying (end_of u - 1)
            (step_past h.a.env h.a.memory (asked h y).act (act_end i h.running.instr) u (omega (arith, (asked h y).past)) right)

        -- it was carried out
        pub turn_went : {d : Done} → r ≡ Ok d → Went h ls' cs' o' d.events × (d.next ≡ i + length (instr h.running.instr))
        turn_went q =
            let w = came q went in
            let v = carried_is h u ending w.is in (
              record {
                b = w.a;
                new = v.new;
                code = λ s. acts s ∙ v.code s;
                log = v.log;
                works = w.worked.works;
                same = w.worked.same;
                beside = beside_again (beside_wide above (omega arith) (omega arith)) (beside_wide w.worked.beside (omega arith) (omega arith));
                few = omega (arith, w.worked.few, turn_inside h);
              },
              w.ends ∙ v.ends,
            )

        -- it blocked
        pub turn_blocked : {why : Reason} → Straight u → r ≡ Err why → Stays h ls' cs' o' why
        turn_blocked {why} k q = rw ((C.still _ q).0, (C.still _ q).1, (C.still _ q).2) (turn_stays (by u k ending (stopped q went)))
          where
            by : (u : Step) → Straight u → Ended i h.running.instr u → carried thread 0 u h.a ≡ lacks why → u ≡ S.Blocked why
            by S.Return k m e = absurd m
            by (S.Assign x v j) k m e = lacking (sym e)
            by (S.Read x l z v j) k m e = lacking (sym e)
            by (S.Write l z d v j) k m e = lacking (sym e)
            by (S.Test q j) k m e = absurd (k.no_test q j refl)
            by (S.Call q j) k m e = absurd (k.no_call q j refl)
            by (S.Select c z j) k m e = absurd m
            by (S.Blocked q) k m e = ap S.Blocked (lacks_inj e)
