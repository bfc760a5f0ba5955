-- One step of a frame's code, way by way.
use Prim.Native.Nat.{ℕ, ◌+◌, ◌-◌, ◌≤◌, ◌<◌}
use native.Mathlib.Omega.{arith}
use mathlib.Core.Path.{◌≡◌, refl, sym, ap, subst, ◌∙◌}
use mathlib.Core.List.{List, [], ◌∷◌, ◌++◌, append-nil, append_assoc, map}
use mathlib.Core.Bool.{Bool}
use lib.ListN.{length, get_or, replicate, length-append, replicate-append-replicate, get_or-append}
use Rattle.value.specs.Maybe.{is, nothing}
use Rattle.std.specs.Prelude.{Result, Ok, Err}
use Rattle.value.specs.Try.{Try, has, lacks}
use Rattle.value.specs.declared.Reason.{Reason}
use Rattle.value.specs.declared.Value.{Value}
use Rattle.value.proofs.Laws.Maybes.{missing}
use Rattle.value.proofs.Laws.Tries.{has_inj, lacks_inj, lacking}
use Rattle.format.specs.Syntax.{Instr, Block, step}
use Rattle.format.specs.Labels.{labelled, first, ends_of}
use Rattle.labels.specs.LabelMap as Map
use Rattle.decide.specs.declared.step.Step.{Step}
use Rattle.decide.specs.declared.step.Step.TheVariants as S
use Rattle.atomic.specs.declared.block.Done.{Done}
use Rattle.concurrent.specs.declared.threads.Turn.TheVariants as T
use Rattle.semantics.specs.Memory.{Env, evals, Memory, Event}
use Rattle.semantics.specs.Step.{Stack, Moved}
use Rattle.semantics.specs.Threads.{Atomic}
use Rattle.engine.specs.Work.{frame_words, Beside, Clears, Framed}
use Rattle.decide.specs.Decided.{Act, assigns, writes, reads, tests, calls, returns, args_of, decided, callee_of, Right}
use Rattle.decide.specs.Decided.{ActAt, Poised, Kept, Lies, DecidesAll}
use Rattle.decide.specs.Decided as D
use Rattle.atomic.specs.Doing.{Works, carried, StepFits, end_of, Past, Carrying, Carries}
use Rattle.atomic.specs.Doing as W
use Rattle.concurrent.specs.Turning.{Turning, code_of, Turns}
use Rattle.engine.specs.Laws.Work.{framed_below, framed_entered}
use Rattle.decide.specs.Laws.Deciding.{decided_right, evals_length, target_below}
use Rattle.atomic.specs.Laws.Threading.{beside_wide}
use Rattle.concurrent.specs.Laws.Leading.{label_after, Called}
use Rattle.atomic.proofs.Inside.{came, stopped, beside_again}
use Rattle.concurrent.proofs.TurningAtomic.{turn_inside, doing_atomic, turns_stopped, turns_done}
use Rattle.concurrent.proofs.TurningAsked.{Means, asked}

-- ---- the step that was decided

-- its local or its cell is there
pub step_fits : (t : List ℕ) (i : ℕ) (a : Atomic) (k : Act) (j : ℕ) → ActAt t i (length a.env) k j → (u : Step) → Right a.env a.memory k j u
    → StepFits a u
step_fits t i a k j h (S.Assign x v m) r = target_below t i (length a.env) k j h r.1
step_fits t i a k j h (S.Read x l z v m) r = target_below t i (length a.env) k j h r.1
step_fits t i a k j h (S.Write l z c v m) r = r.1
step_fits t i a k j h (S.Test q m) r = tt
step_fits t i a k j h (S.Call q m) r = tt
step_fits t i a k j h S.Return r = tt
step_fits t i a k j h (S.Select c e m) r = tt
step_fits t i a k j h (S.Blocked why) r = tt

-- it ends there
pub step_past : (ρ : Env) (η : Memory) (k : Act) (j : ℕ) (u : Step) → 1 ≤ j → Right ρ η k j u → Past (end_of u - 1) u
step_past ρ η k j (S.Assign x v m) l r = omega (arith, r.0)
step_past ρ η k j (S.Read x p z v m) l r = omega (arith, r.0)
step_past ρ η k j (S.Write p z c v m) l r = omega (arith, r.0)
step_past ρ η k j (S.Test q m) l r = tt
step_past ρ η k j (S.Call q m) l r = tt
step_past ρ η k j S.Return l r = tt
step_past ρ η k j (S.Select c e m) l r = tt
step_past ρ η k j (S.Blocked why) l r = tt

-- the first locals of a frame
framed_front : {ls : List ℕ} {fb : ℕ} (ρ σ : Env) → Framed ls fb (ρ ++ σ) → Framed ls fb ρ
framed_front ρ σ f = record {
  room = omega (arith, f.room, length-append ρ σ);
  each = λ x l. f.each x (omega (arith, length-append ρ σ)) ∙ get_or-append ρ σ nothing x l;
}

-- the frame of a call: its arguments, and all other words cleared
pub framed_called : {ls ls' : List ℕ} {fb : ℕ} (vs : List Value) (n : ℕ) → Framed ls fb (map is vs) → length vs ≤ n → n ≤ frame_words
    → fb + frame_words ≤ length ls
    → Clears ls ls' (fb + length vs) (fb + frame_words) → Framed ls' fb (map is vs ++ replicate (n - length vs) nothing)
framed_called {ls} {ls'} {fb} vs n f h l r c =
    let none : ℕ → Env = λ k. replicate k nothing in
    let all : n - length vs + (frame_words - n) ≡ frame_words - length vs = omega arith in
    let parts : map is vs ++ none (frame_words - length vs) ≡ (map is vs ++ none (n - length vs)) ++ none (frame_words - n) =
    sym (append_assoc (map is vs) (none (n - length vs)) (none (frame_words - n))
    ∙ ap (map is vs ++◌) (replicate-append-replicate (n - length vs) (frame_words - n) nothing ∙ ap none all))
    in
    framed_front (map is vs ++ none (n - length vs)) (none (frame_words - n))
    (subst (Framed ls' fb) parts (framed_entered vs f (omega arith) r c))

-- a call's count of arguments
pub call_count : (t : List ℕ) (i n : ℕ) (k : Act) (j : ℕ) {q : ℕ} → ActAt t i n k j → callee_of k ≡ is q
    → (i + 4 ≤ length t) × (get_or t (i + 3) 0 ≡ length (args_of k))
call_count t i n (calls m es) j h e = (h.inside, sym h.args.count)
call_count t i n (assigns x v) j h e = missing e
call_count t i n (writes y o v) j h e = missing e
call_count t i n (reads x y o) j h e = missing e
call_count t i n (tests v) j h e = missing e
call_count t i n returns j h e = missing e

-- all steps but a return, a test and a call
pub record Plainly (u : Step) : Type 0 where
  pub no_return : u ≡ S.Return → ⊥
  pub no_test : (q : Bool) (j : ℕ) → u ≡ S.Test q j → ⊥
  pub no_call : (q j : ℕ) → u ≡ S.Call q j → ⊥

module _ {t : List ℕ} {thread label fb : ℕ} {bs : List ℕ} {i : ℕ} {ls cs o : List ℕ} {n : ℕ} where
  -- such a step that was carried out
  record Carried (h : Turning t thread label fb bs i ls cs o n) (tag : ℕ) (instr : Instr ℕ) (rest : Block ℕ) (u : Step) (b : Atomic) : Type 0 where
    pub new : List Event
    pub log : b.events ≡ h.a.events ++ new
    pub code : (s : Stack ℕ) → D.carried (labelled h.p).procs thread label h.m h.a.env tag instr rest s h.a.memory u
        ≡ has (record { stack = record { proc = h.m; env = b.env; code = rest } ∷ s; memory = b.memory; events = new })
    pub begins : h.c ≡ step tag instr rest
    pub leads : first (ends_of h.p h.m) rest ≡ Map.next (ends_of h.p h.m) (step tag instr rest)

  carried_is : (h : Turning t thread label fb bs i ls cs o n) (tag : ℕ) (instr : Instr ℕ) (rest : Block ℕ) (u : Step) {b : Atomic}
      → Means h tag instr rest u → carried thread label u h.a ≡ has b → Carried h tag instr rest u b
  carried_is h tag instr rest (S.Assign x v j) m e = rw (← has_inj e) (record {
    new = [];
    log = sym (append-nil h.a.events);
    code = λ s. refl;
    begins = m.0;
    leads = m.1;
  })
  carried_is h tag instr rest (S.Read x l k v j) m e = rw (← has_inj e) (record {
    new = _;
    log = refl;
    code = λ s. refl;
    begins = m.0;
    leads = m.1;
  })
  carried_is h tag instr rest (S.Write l k d v j) m e = rw (← has_inj e) (record {
    new = _;
    log = refl;
    code = λ s. refl;
    begins = m.0;
    leads = m.1;
  })
  carried_is h tag instr rest (S.Test q j) m e = lacking e
  carried_is h tag instr rest (S.Call q j) m e = lacking e
  carried_is h tag instr rest S.Return m e = lacking e
  carried_is h tag instr rest (S.Select k d j) m e = lacking e
  carried_is h tag instr rest (S.Blocked why) m e = lacking e

  -- and one that was not
  carried_none : (h : Turning t thread label fb bs i ls cs o n) (tag : ℕ) (instr : Instr ℕ) (rest : Block ℕ) (u : Step) → Plainly u
      → {why : Reason} → carried thread label u h.a ≡ lacks why → (s : Stack ℕ)
      → D.carried (labelled h.p).procs thread label h.m h.a.env tag instr rest s h.a.memory u ≡ lacks why
  carried_none h tag instr rest (S.Assign x v j) k e s = lacking (sym e)
  carried_none h tag instr rest (S.Read x l z v j) k e s = lacking (sym e)
  carried_none h tag instr rest (S.Write l z d v j) k e s = lacking (sym e)
  carried_none h tag instr rest (S.Test q j) k e s = absurd (k.no_test q j refl)
  carried_none h tag instr rest (S.Call q j) k e s = absurd (k.no_call q j refl)
  carried_none h tag instr rest S.Return k e s = absurd (k.no_return refl)
  carried_none h tag instr rest (S.Select z d j) k e s = ap lacks (lacks_inj e)
  carried_none h tag instr rest (S.Blocked q) k e s = ap lacks (lacks_inj e)

  module _ (y : get_or t i 0 ≡ 0x26 → ⊥) where
    -- it can be decided
    pub turn_poised : Turning t thread label fb bs i ls cs o n → Poised t ls fb i
    turn_poised h =
        let q = asked h y in
        record {
          env = h.a.env;
          framed = h.works.framed;
          act = q.act;
          j = q.j;
          here = q.here;
          narrow = h.works.small;
          room = h.works.room;
        }

    -- in its memory
    turn_lies : (h : Turning t thread label fb bs i ls cs o n) → Lies bs cs h.a.memory
    turn_lies h = record { bases = h.works.bases; holds = h.works.holds }

    pub turn_kept : Turning t thread label fb bs i ls cs o n → Kept bs cs
    turn_kept h = record { memory = h.a.memory; lies = turn_lies h }

    -- what a step does with the code
    abbrev acted : Turning t thread label fb bs i ls cs o n → Stack ℕ → Step → Try (Moved ℕ)
    acted h s =
        D.carried (labelled h.p).procs thread label h.m h.a.env (asked h y).tag (asked h y).instr (asked h y).rest s h.a.memory

    module _ {ls₁ : List ℕ} {u : Step} (E : DecidesAll t ls ls₁ fb i (Lies bs cs) u) where
      -- what the step is
      this : (h : Turning t thread label fb bs i ls cs o n) → u ≡ decided h.a.env h.a.memory (asked h y).act (asked h y).j
      unfolding turn_poised
      this h = E.decides.step (turn_poised h) h.a.memory (turn_lies h)

      -- what it means
      meaning : (h : Turning t thread label fb bs i ls cs o n) → Means h (asked h y).tag (asked h y).instr (asked h y).rest u
      meaning h = subst (Means h (asked h y).tag (asked h y).instr (asked h y).rest) (sym (this h)) (asked h y).means

      -- what is so
      right : (h : Turning t thread label fb bs i ls cs o n) → Right h.a.env h.a.memory (asked h y).act (asked h y).j u
      right h =
          subst (Right h.a.env h.a.memory (asked h y).act (asked h y).j) (sym (this h))
          (decided_right h.a.env h.a.memory (asked h y).act (asked h y).j)

      -- what the code does
      doing : (h : Turning t thread label fb bs i ls cs o n) (s : Stack ℕ) → code_of h.p thread h.m h.c h.a s ≡ acted h s u
      doing h s = (asked h y).code s ∙ ap (acted h s) (sym (this h))

      -- only words of the frame above are others
      above : (h : Turning t thread label fb bs i ls cs o n) → Beside ls ls₁ (fb + frame_words) (fb + frame_words + frame_words)
      unfolding turn_poised
      above h = beside_wide (E.passes.beside (turn_poised h)) (omega arith) (omega (arith, (asked h y).few))

      -- all is at work as before
      working : (h : Turning t thread label fb bs i ls cs o n) → Works fb bs h.es ls₁ cs o n h.a
      working h = record {
        framed = framed_below (above h) (omega (arith, h.works.small)) h.works.framed;
        room = omega (arith, h.works.room, (above h).long);
        small = h.works.small;
        holds = h.works.holds;
        bases = h.works.bases;
        logged = h.works.logged;
      }

      -- a return
      pub turns_return : u ≡ S.Return → Turns t thread label fb bs i ls cs o n ls₁ cs o (Ok T.Return)
      turns_return e = record {
        beside = λ h. beside_wide (above h) (omega arith) (omega arith);
        answers = λ h. record {
          code = subst (Means h (asked h y).tag (asked h y).instr (asked h y).rest) e (meaning h);
          works = working h;
        };
      }

      -- a test
      pub turns_test : {q : Bool} {k : ℕ} → u ≡ S.Test q k → Turns t thread label fb bs i ls cs o n ls₁ cs o (Ok (T.Test q))
      turns_test {q} e = record {
        beside = λ h. beside_wide (above h) (omega arith) (omega arith);
        answers = λ h.
            let m = subst (Means h (asked h y).tag (asked h y).instr (asked h y).rest) e (meaning h) in
            record {
              tag = (asked h y).tag;
              instr = (asked h y).instr;
              rest = (asked h y).rest;
              begins = m.0;
              code = λ s. doing h s
                  ∙ ap (acted h s) e;
              label = m.1 ∙ ap (label_after q (ends_of h.p h.m)) (sym m.0);
              works = working h;
            };
      }

      -- a call: its count of arguments stands there
      call_here : {q k : ℕ} → u ≡ S.Call q k → (h : Turning t thread label fb bs i ls cs o n)
          → (i + 4 ≤ length t) × (get_or t (i + 3) 0 ≡ length (args_of (asked h y).act))
      call_here e h =
          let r = subst (Right h.a.env h.a.memory (asked h y).act (asked h y).j) e (right h) in
          call_count t i (length h.a.env) (asked h y).act (asked h y).j (asked h y).here r.1

      pub call_byte : {q k : ℕ} → u ≡ S.Call q k → Turning t thread label fb bs i ls cs o n → i + 3 < length t
      call_byte e h = omega (arith, call_here e h)

      -- there is room for its locals
      pub call_room : {q k b : ℕ} → u ≡ S.Call q k → b ≡ get_or t (i + 3) 0 → Turning t thread label fb bs i ls cs o n
          → fb + frame_words + b ≤ fb + frame_words + frame_words
      call_room e f h = omega (arith, call_here e h, (asked h y).few)

      -- and a frame above
      pub call_above : {q k : ℕ} → u ≡ S.Call q k → Turning t thread label fb bs i ls cs o n → fb + frame_words + frame_words ≤ length ls₁
      call_above e h = omega (arith, h.works.room, (above h).long)

      -- those that are no arguments are not set
      pub turns_call : {q k b : ℕ} {ls₂ : List ℕ} → u ≡ S.Call q k → b ≡ get_or t (i + 3) 0
          → Clears ls₁ ls₂ (fb + frame_words + b) (fb + frame_words + frame_words) → Turns t thread label fb bs i ls cs o n ls₂ cs o (Ok (T.Call q))
      unfolding turn_poised
      turns_call {q} {k} {b} {ls₂} e f C = record {
        beside = λ h. beside_wide (beside_again (above h) (cleared h)) (omega arith) (omega arith);
        answers = λ h.
            let m = subst (Means h (asked h y).tag (asked h y).instr (asked h y).rest) e (meaning h) in
            let w : Called h.p h.m h.a.env (asked h y).instr q = m.1.1 in
            let vs : List Value = w.values in
            let args : evals h.a.env (args_of (asked h y).act) ≡ has vs = ap (evals h.a.env) (asked h y).args ∙ w.args in
            let small = h.params q w.proc w.found in
            record {
              tag = (asked h y).tag;
              instr = (asked h y).instr;
              rest = (asked h y).rest;
              begins = m.0;
              called = w;
              code = λ s c. doing h s
                  ∙ ap (acted h s) e
                  ∙ rw (w.args, w.found, c);
              label = m.1.0 ∙ ap (Map.next (ends_of h.p h.m)) (sym m.0);
              works = record {
                framed = framed_below (cleared h) (omega (arith, h.works.small)) (working h).framed;
                room = omega (arith, h.works.room, (above h).long, (cleared h).long);
                small = h.works.small;
                holds = h.works.holds;
                bases = h.works.bases;
                logged = h.works.logged;
              };
              above =
                  framed_called vs w.proc.locals (E.passes.passed (turn_poised h) vs args) (omega (arith, w.params)) (omega arith)
                  (omega (arith, h.works.room, (above h).long)) (count h vs args);
            };
      }
        where
          cleared : Turning t thread label fb bs i ls cs o n → Beside ls₁ ls₂ (fb + frame_words) (fb + frame_words + frame_words)
          cleared h = beside_wide C.beside (omega arith) (omega arith)

          count : (h : Turning t thread label fb bs i ls cs o n) (vs : List Value) → evals h.a.env (args_of (asked h y).act) ≡ has vs
              → Clears ls₁ ls₂ (fb + frame_words + length vs) (fb + frame_words + frame_words)
          count h vs g =
              let same : b ≡ length vs = f ∙ (call_here e h).1 ∙ sym (evals_length h.a.env (args_of (asked h y).act) g) in
              rw same at C

      -- a step that can be carried out
      pub turn_carrying : Turning t thread label fb bs i ls cs o n → Carrying fb u ls₁ cs o n
      turn_carrying h = record {
        a = h.a;
        bs = bs;
        es = h.es;
        works = working h;
        fits = step_fits t i h.a (asked h y).act (asked h y).j (asked h y).here u (right h);
        few = omega (arith, h.few, turn_inside h);
      }

      module _ {ls' cs' o' : List ℕ} {r : Result Done Reason} (C : Carries thread label fb u ls₁ cs o n ls' cs' o' r) where
        -- how it went
        went : (h : Turning t thread label fb bs i ls cs o n)
            → W.Went fb (end_of u - 1) (end_of u) bs h.es ls₁ n (length h.a.env) ls' cs' o' (carried thread label u h.a) r
        unfolding turn_carrying
        went h =
            C.carries (turn_carrying h) (end_of u - 1)
            (step_past h.a.env h.a.memory (asked h y).act (asked h y).j u (omega (arith, (asked h y).past)) (right h))

        -- it was carried out
        pub turns_carried : {d : Done} → r ≡ Ok d → Turns t thread label fb bs i ls cs o n ls' cs' o' (Ok (T.Next d.events))
        turns_carried q = record {
          beside = λ h. beside_again (beside_wide (above h) (omega arith) (omega arith))
              (beside_wide (came q (went h)).worked.beside (omega arith) (omega arith));
          answers = λ h.
              let w = came q (went h) in
              let v = carried_is h (asked h y).tag (asked h y).instr (asked h y).rest u (meaning h) w.is in
              record {
                b = w.a;
                new = v.new;
                rest = (asked h y).rest;
                code = λ s. doing h s ∙ v.code s;
                label = v.leads ∙ ap (Map.next (ends_of h.p h.m)) (sym v.begins);
                tag = (asked h y).tag;
                instr = (asked h y).instr;
                begins = v.begins;
                log = v.log;
                works = w.worked.works;
                same = w.worked.same;
                few = omega (arith, w.worked.few, turn_inside h);
              };
        }

        -- it blocks
        pub turns_blocked : {why : Reason} → Plainly u → r ≡ Err why → Turns t thread label fb bs i ls cs o n ls' cs' o' (Err why)
        turns_blocked k q = record {
          beside = λ h. rw (C.still _ q).0 (beside_wide (above h) (omega arith) (omega arith));
          answers = λ h. record {
            code = λ s. doing h s ∙ carried_none h (asked h y).tag (asked h y).instr (asked h y).rest u k (stopped q (went h)) s;
            works = rw ((C.still _ q).0, (C.still _ q).1, (C.still _ q).2) (working h);
          };
        }

-- one law for each way
pub ruleset turn_ways = (
  turn_inside,
  doing_atomic,
  turns_stopped,
  turns_done,
  turn_poised,
  turn_kept,
  turns_return,
  turns_test,
  turns_call,
  turn_carrying,
  turns_carried,
  turns_blocked,
)
