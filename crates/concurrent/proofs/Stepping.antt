-- One step of a thread: the turn of its uppermost frame, and what it is worth to the thread.
use Prim.Native.Nat.{ℕ, zero, suc, ◌+◌, ◌*◌, ◌-◌, ◌≤◌, ◌<◌}
use native.Mathlib.Omega.{arith}
use mathlib.Core.Path.{◌≡◌, refl, sym, ap, subst, ◌∙◌}
use mathlib.Core.List.{List, [], ◌∷◌, ◌++◌, append-nil, map}
use mathlib.Core.Bool.{Bool, true, false}
use lib.ListN.{length, get_or, set, replicate, length-append, length-map, length-replicate}
use Rattle.value.specs.Maybe.{is, nothing}
use Rattle.std.specs.Prelude.{Result, Ok, Err}
use Rattle.value.specs.Try.{has, lacks}
use Rattle.value.specs.declared.Reason.{Reason}
use Rattle.value.specs.declared.Reason.TheVariants.{FinishedThread}
use Rattle.value.specs.Lists.{at}
use Rattle.value.specs.declared.Value.{Value}
use Rattle.value.proofs.Laws.Maybes.{is_inj, missing}
use Rattle.value.proofs.Laws.Lists.{at_below, at_get_d}
use Rattle.format.specs.Syntax.{Instr, Block, end, step, Proc, Program, Plain}
use Rattle.format.specs.Labels.{labelled, first, ends_of, body_of}
use Rattle.format.specs.Rules.{max_labels}
use Rattle.labels.specs.Laws.Spots.{Remains, remains_body, remains_after}
use Rattle.concurrent.specs.declared.threads.Turn.{Turn}
use Rattle.concurrent.specs.declared.threads.Turn.TheVariants as T
use Rattle.semantics.specs.Memory.{Env, Event}
use Rattle.semantics.specs.Step.{Frame, Stack, Moved, entered}
use Rattle.semantics.specs.Threads as P
use Rattle.semantics.specs.Threads.{Atomic}
use Rattle.engine.specs.Work.{Beside, frame_words}
use Rattle.engine.specs.Events.{Logged}
use Rattle.decide.specs.Decided.{branch}
use Rattle.atomic.specs.Doing.{Works}
use Rattle.atomic.specs.Threaded.{thread_frames, FrameAt, Linked, Threaded, all_frames, most_frames, most_threads}
use Rattle.concurrent.specs.Turning.{Turning, code_of, Turns}
use Rattle.concurrent.specs.Turning as U
use Rattle.concurrent.specs.Stepping.{Stepping, Went, Stays, Steps, test_label, labels_after, depths_after, events_after, Callee}
use Rattle.concurrent.specs.Stepping.{Moving, Moves}
use Rattle.semantics.proofs.Laws.Shapes.{thread_shape}
use Rattle.atomic.specs.Laws.Standing.{LabelAt, label_at}
use Rattle.concurrent.specs.Laws.Leading.{label_after, remains_branch}
use Rattle.atomic.specs.Laws.Linked.{no_cycle_lem, few_frames, length_labels}
use Rattle.atomic.specs.Laws.Threading.{beside_wide, few_locals_lem, frame_small, thread_there}
use Rattle.atomic.specs.Laws.Threading.{threaded_on, threaded_back, threaded_call, threaded_still}

-- ---- a step of the program

module _ (p : Program ℕ) (t : ℕ) (z : P.State) {f : Frame ℕ} {s : Stack ℕ} (e : at z.threads t ≡ is (f ∷ s)) where
  -- what the code of the uppermost frame does, the thread does
  pub step_is : (r : Moved ℕ) → P.code p.procs t f.code f.proc f.env s z.memory ≡ has r
      → P.thread_step p t z ≡ has (record { state = record { threads = set z.threads t r.stack; memory = r.memory }; events = r.events })
  step_is r g = rw (e, g)

  -- and where it blocks, the thread does
  pub step_blocks : {why : Reason} → P.code p.procs t f.code f.proc f.env s z.memory ≡ lacks why → P.thread_step p t z ≡ lacks why
  step_blocks g = rw (e, g)

-- a finished thread blocks
pub step_finished : (p : Program ℕ) (t : ℕ) (z : P.State) → at z.threads t ≡ is [] → P.thread_step p t z ≡ lacks FinishedThread
step_finished p t z e = rw e

-- the body of procedure m
pub body_of_lem : (ps : List (Proc ℕ)) (m : ℕ) {q : Proc ℕ} → at ps m ≡ is q → body_of ps m ≡ q.body
body_of_lem [] m e = missing e
body_of_lem (p ∷ ps) zero e = rw (is_inj e)
body_of_lem (p ∷ ps) (suc m) e = body_of_lem ps m e

-- a frame that was entered has all locals of its procedure
pub entered_long : (q : Proc ℕ) (vs : List Value) → q.params ≤ q.locals → length vs ≡ q.params
    → length (map is vs ++ replicate (q.locals - length vs) nothing) ≡ q.locals
entered_long q vs h e =
    let left : Env = replicate (q.locals - length vs) nothing in
    let some : length left ≡ q.locals - length vs = length-replicate (q.locals - length vs) nothing in
    omega (arith, length-append (map is vs) left, length-map vs is)

-- ---- the uppermost frame

-- its number
abbrev top_of : ℕ → List ℕ → ℕ
top_of thread depths = thread_frames * thread + get_or depths thread 0 - 1

-- it is one of all, and so is its label
pub record Small (thread : ℕ) (labels depths : List ℕ) : Type 0 where
  pub depth : get_or depths thread 0 ≤ most_frames
  pub top : thread_frames * thread + get_or depths thread 0 - 1 < all_frames
  pub label : get_or labels (thread_frames * thread + get_or depths thread 0 - 1) 0 ≤ max_labels

module _ {t map bounds ss : List ℕ} {thread : ℕ} {labels depths ls cs o : List ℕ} {n : ℕ} where
  -- a thread that is not finished has one
  record Uppermost (h : Stepping t map bounds ss thread labels depths ls cs o n) : Type 0 where
    pub frame : Frame ℕ
    pub below : Stack ℕ
    pub found : at h.state.threads thread ≡ is (frame ∷ below)
    pub depth : get_or depths thread 0 ≡ length below + 1
    pub there : thread < most_threads
    pub few : length below < most_frames
    pub top : top_of thread depths ≡ thread_frames * thread + length below
    pub here : FrameAt h.loaded.program ls (get_or labels (thread_frames * thread + length below) 0) (thread_frames * thread + length below) frame
    pub linked : Linked h.loaded.program (frame ∷ below)
    pub label : LabelAt t map h.loaded.program frame.proc (get_or labels (thread_frames * thread + length below) 0) frame.code

  -- the stack of the thread
  stacked : (h : Stepping t map bounds ss thread labels depths ls cs o n) → (s : Stack ℕ) × (at h.state.threads thread ≡ is s)
  stacked h = (
    get_or h.state.threads thread [],
    at_get_d h.state.threads thread [] (omega (arith, h.there, h.present.threads.count)),
  )

  -- there it is
  uppermost : (h : Stepping t map bounds ss thread labels depths ls cs o n) → (get_or depths thread 0 ≡ 0 → ⊥) → Uppermost h
  uppermost h z = by (stacked h).0 (stacked h).1
    where
      by : (s : Stack ℕ) → at h.state.threads thread ≡ is s → Uppermost h
      by [] e = absurd (z (h.present.threads.each thread [] e).depth)
      by (f ∷ s) e =
          let own = h.present.threads.each thread (f ∷ s) e in
          let depth : get_or depths thread 0 ≡ length s + 1 = omega (arith, own.depth) in
          record {
            frame = f;
            below = s;
            found = e;
            depth = depth;
            there = thread_there h.loaded.sound thread f s h.present.threads e;
            few = omega (arith, few_frames h.loaded.sound labels ls (thread_frames * thread) (f ∷ s) own.frames own.linked);
            top = omega arith;
            here = own.frames.0;
            linked = own.linked;
            label = label_at h.loaded.sound h.loaded.same h.loaded.mapped own.frames.0.remains own.frames.0.label;
          }

  -- ---- its turn

  -- what the frame has at hand
  abbrev hand_of : (h : Stepping t map bounds ss thread labels depths ls cs o n) → Uppermost h → Atomic
  hand_of h u = record { env = u.frame.env; memory = h.state.memory; events = h.so_far }

  -- the frame of number k takes a turn
  turn_at : (h : Stepping t map bounds ss thread labels depths ls cs o n) (u : Uppermost h) (k : ℕ) → k ≡ thread_frames * thread + length u.below
      → Turning t thread (get_or labels k 0) (frame_words * k) ss (get_or map (4 * get_or labels k 0) 0) ls cs o n
  turn_at h u k e = record {
    p = h.loaded.program;
    m = u.frame.proc;
    c = u.frame.code;
    stands = rw e u.label.stands;
    here = rw e u.here.label;
    a = hand_of h u;
    es = h.lent;
    works = record {
      framed = rw e u.here.framed;
      room = omega (arith, h.present.long, u.there, u.few);
      small = omega (arith, frame_small h.loaded.sound u.here);
      holds = h.present.memory;
      bases = rw h.present.sizes h.loaded.starts;
      logged = h.present.events;
    };
    full = u.here.full;
    params = λ q r i. few_locals_lem h.loaded.sound q i;
    few = h.few;
  }

  -- the uppermost one does
  pub step_turning : Stepping t map bounds ss thread labels depths ls cs o n → (get_or depths thread 0 ≡ 0 → ⊥)
      → Turning t thread (get_or labels (top_of thread depths) 0) (frame_words * top_of thread depths) ss (get_or map (4 * get_or labels (top_of thread depths) 0) 0) ls cs o n
  step_turning h z = turn_at h (uppermost h z) (top_of thread depths) (uppermost h z).top

-- ---- what each turn is worth

module _ {t map bounds ss : List ℕ} {thread : ℕ} {labels depths ls cs o : List ℕ} {n : ℕ}
    (h : Stepping t map bounds ss thread labels depths ls cs o n)
    (u : Uppermost h) where
  -- the program
  abbrev program : Program Plain
  program = h.loaded.program

  -- the frame's number
  abbrev top : ℕ
  top = thread_frames * thread + length u.below

  -- what the frame's code does above the frames below
  abbrev does : Moved ℕ → Type 0
  does r = code_of program thread u.frame.proc u.frame.code (hand_of h u) u.below ≡ has r

  -- the words of its frame and of the one above
  wide : {ls' : List ℕ} → Beside ls ls' (frame_words * top) (frame_words * top + frame_words + frame_words)
      → Beside ls ls' (frame_words * top) (frame_words * (top + 2))
  wide W = beside_wide W (omega arith) (omega arith)

  module _ {ls' cs' o' : List ℕ} (W : Beside ls ls' (frame_words * top) (frame_words * top + frame_words + frame_words)) where
    -- what is present after a step
    present_then : {labels' depths' : List ℕ} {k : ℕ} (r : Moved ℕ) (b : Atomic) → does r → r.memory ≡ b.memory → b.events ≡ h.so_far ++ r.events
        → Works (frame_words * top) ss h.lent ls' cs' o' k b → Threaded program labels' depths' ls' (set h.state.threads thread r.stack)
        → k ≤ n + length t → Went h labels' depths' ls' cs' o' k
    present_then {k = k} r b d m log w threads few = record {
      step = record { state = record { threads = set h.state.threads thread r.stack; memory = r.memory }; events = r.events };
      goes = step_is (labelled program) thread h.state u.found r d;
      present = record {
        threads = threads;
        long = W.long ∙ h.present.long;
        memory = rw m w.holds;
        sizes = thread_shape (labelled program).procs thread (u.frame ∷ u.below) h.state.memory r d ∙ h.present.sizes;
        events = subst (λ (evs : List Event). Logged h.lent evs o' k) log w.logged;
      };
      few = few;
    }

    -- the frame with other code and locals
    frame_on : {l : ℕ} (b : Atomic) (rest : Block ℕ) {k : ℕ} → Works (frame_words * top) ss h.lent ls' cs' o' k b
        → length b.env ≡ length u.frame.env → Remains (labelled program).procs u.frame.proc rest → l ≡ first (ends_of program u.frame.proc) rest
        → FrameAt program ls' l top (record { proc = u.frame.proc; env = b.env; code = rest })
    frame_on b rest w same r e = record {
      remains = r;
      label = e;
      framed = w.framed;
      full = λ q i. same ∙ u.here.full q i;
    }

    -- the code goes on
    goes_on : {labels' : List ℕ} {k : ℕ} (l : ℕ) (b : Atomic) (new : List Event) (rest : Block ℕ)
        → does (record { stack = record { proc = u.frame.proc; env = b.env; code = rest } ∷ u.below; memory = b.memory; events = new })
        → b.events ≡ h.so_far ++ new → Works (frame_words * top) ss h.lent ls' cs' o' k b
        → length b.env ≡ length u.frame.env → Remains (labelled program).procs u.frame.proc rest → l ≡ first (ends_of program u.frame.proc) rest → labels' ≡ set labels top l
        → k ≤ n + length t → Went h labels' depths ls' cs' o' k
    goes_on l b new rest d log w same r e L few =
        let f : Frame ℕ = record { proc = u.frame.proc; env = b.env; code = rest } in
        present_then (record { stack = f ∷ u.below; memory = b.memory; events = new }) b d refl log w
        (threaded_on h.loaded.sound thread u.frame u.below h.present.threads u.found f l refl L (wide W)
        (frame_on b rest w same r e))
        few

    -- the threads, where the frame stays
    threads_still : {k : ℕ} → Works (frame_words * top) ss h.lent ls' cs' o' k (hand_of h u) → Threaded program labels depths ls' h.state.threads
    threads_still w =
        threaded_still h.loaded.sound thread u.frame u.below h.present.threads u.found (wide W)
        (record { remains = u.here.remains; label = u.here.label; framed = w.framed; full = u.here.full })

    -- the frame is left
    comes_back : {depths' : List ℕ} → u.frame.code ≡ end → Works (frame_words * top) ss h.lent ls' cs' o' n (hand_of h u)
        → depths' ≡ set depths thread (length u.below) → Went h labels depths' ls' cs' o' n
    comes_back e w D =
        present_then (record { stack = u.below; memory = h.state.memory; events = [] }) (hand_of h u)
        (ap (λ c. code_of program thread u.frame.proc c (hand_of h u) u.below) e) refl (sym (append-nil h.so_far)) w
        (threaded_back h.loaded.sound thread u.frame u.below (threads_still w) u.found D)
        (omega arith)

    -- nothing moves
    stays : {why : Reason} → code_of program thread u.frame.proc u.frame.code (hand_of h u) u.below ≡ lacks why
        → Works (frame_words * top) ss h.lent ls' cs' o' n (hand_of h u) → Stays h labels depths ls' cs' o' why
    stays e w = record {
      blocks = step_blocks (labelled program) thread h.state u.found e;
      present = record {
        threads = threads_still w;
        long = W.long ∙ h.present.long;
        memory = w.holds;
        sizes = h.present.sizes;
        events = w.logged;
      };
    }

    -- the frame of a call
    frame_new : (q : ℕ) (T : U.Calls t program thread u.frame.proc u.frame.code (hand_of h u) (frame_words * top) ss h.lent n ls' cs' o' q)
        → FrameAt program ls' (get_or bounds (2 * q) 0) (top + 1) (entered q T.called.proc T.called.values)
    frame_new q T =
        let below : q < length (labelled program).procs = at_below (labelled program).procs q T.called.found in
        let there : q < length program.procs = omega (arith, length_labels program.procs 1) in
        let few : T.called.proc.params ≤ T.called.proc.locals = (few_locals_lem h.loaded.sound q T.called.found).0 in
        let place : frame_words * top + frame_words ≡ frame_words * (top + 1) = omega arith in
        record {
          remains = remains_body T.called.found;
          label = h.loaded.mapped.begins q there ∙ ap (first (ends_of program q)) (body_of_lem (labelled program).procs q T.called.found);
          framed = rw (← place) T.above;
          full = λ r i.
              let same : T.called.proc ≡ r = is_inj (sym T.called.found ∙ i) in
              entered_long T.called.proc T.called.values few T.called.params ∙ ap (λ (r : Proc ℕ). r.locals) same;
        }

    -- a procedure is called
    calls : {labels' depths' : List ℕ} (q l : ℕ)
        (T : U.Calls t program thread u.frame.proc u.frame.code (hand_of h u) (frame_words * top) ss h.lent n ls' cs' o' q)
        → l ≡ first (ends_of program u.frame.proc) T.rest → labels' ≡ set (set labels top l) (top + 1) (get_or bounds (2 * q) 0)
        → depths' ≡ set depths thread (length u.below + 2) → Went h labels' depths' ls' cs' o' n
    calls q l T e L D =
        let f : Frame ℕ = record { proc = u.frame.proc; env = u.frame.env; code = T.rest } in
        let g : Frame ℕ = entered q T.called.proc T.called.values in
        let r : Remains (labelled program).procs u.frame.proc (step T.tag T.instr T.rest) =
        subst (Remains (labelled program).procs u.frame.proc) T.begins u.here.remains
        in
        present_then (record { stack = g ∷ f ∷ u.below; memory = h.state.memory; events = [] }) (hand_of h u)
        (T.code u.below (no_cycle_lem h.loaded.sound u.frame.proc q u.frame u.below refl T.called.calls u.linked))
        refl (sym (append-nil h.so_far)) T.works
        (threaded_call h.loaded.sound thread u.frame u.below h.present.threads u.found f g l (get_or bounds (2 * q) 0) refl
        T.called.calls L D (wide W) (frame_on (hand_of h u) T.rest T.works refl (remains_after r) e) (frame_new q T))
        (omega arith)

  -- a procedure that is called is one of 16
  callee_few : (ls' cs' o' : List ℕ) (turn : Turn)
      → U.Answers t program thread u.frame.proc u.frame.code (hand_of h u) (frame_words * top) ss h.lent n ls' cs' o' (Ok turn) → Callee turn
  callee_few ls' cs' o' (T.Next k) A = tt
  callee_few ls' cs' o' (T.Test q) A = tt
  callee_few ls' cs' o' (T.Call q) A =
      omega (arith, at_below (labelled program).procs q A.called.found, length_labels program.procs 1, h.loaded.sound.procs.high)
  callee_few ls' cs' o' T.Return A = tt

  -- where a test leads
  test_label_lem : (q : Bool) → test_label map (4 * get_or labels top 0) q ≡ label_after q (ends_of program u.frame.proc) u.frame.code
  test_label_lem true = u.label.next
  test_label_lem false = u.label.other

  -- what a turn's answer is worth
  answered : {labels' depths' ls' : List ℕ} (cs' o' : List ℕ) {r : ℕ} (turn : Turn)
      → Beside ls ls' (frame_words * top) (frame_words * top + frame_words + frame_words)
      → U.Answers t program thread u.frame.proc u.frame.code (hand_of h u) (frame_words * top) ss h.lent n ls' cs' o' (Ok turn)
      → Moves turn map bounds thread top labels depths n labels' depths' r → Went h labels' depths' ls' cs' o' r
  answered {labels'} {depths'} {ls'} cs' o' turn W A M =
      subst (Went h labels' depths' ls' cs' o') (sym M.answer) (by turn A M.moved M.deep)
    where
      left : {tag : ℕ} {i : Instr ℕ} {rest : Block ℕ} → u.frame.code ≡ step tag i rest
          → Remains (labelled program).procs u.frame.proc (step tag i rest)
      left e = subst (Remains (labelled program).procs u.frame.proc) e u.here.remains

      by : (turn : Turn) → U.Answers t program thread u.frame.proc u.frame.code (hand_of h u) (frame_words * top) ss h.lent n ls' cs' o' (Ok turn)
          → labels' ≡ labels_after map bounds top labels turn → depths' ≡ depths_after thread depths turn
          → Went h labels' depths' ls' cs' o' (events_after n turn)
      by (T.Next k) A L D =
          rw D
          (goes_on W (get_or map (4 * get_or labels top 0 + 2) 0) A.b A.new A.rest (A.code u.below) A.log A.works A.same
          (remains_after (left A.begins)) (u.label.next ∙ sym A.label) L A.few)
      by (T.Test q) A L D =
          rw D
          (goes_on W (test_label map (4 * get_or labels top 0) q) (hand_of h u) [] (branch q A.tag A.instr A.rest) (A.code u.below)
          (sym (append-nil h.so_far)) A.works refl (remains_branch q A.instr (left A.begins)) (test_label_lem q ∙ sym A.label) L
          (omega arith))
      by (T.Call q) A L D =
          let more : get_or depths thread 0 + 1 ≡ length u.below + 2 = omega (arith, u.depth) in
          calls W q (get_or map (4 * get_or labels top 0 + 2) 0) A (u.label.next ∙ sym A.label) L (D ∙ ap (set depths thread) more)
      by T.Return A L D =
          let less : get_or depths thread 0 - 1 ≡ length u.below = omega (arith, u.depth) in
          rw L (comes_back W A.code A.works (D ∙ ap (set depths thread) less))

-- ---- the whole step

module _ {t map bounds ss : List ℕ} {thread : ℕ} {labels depths ls cs o : List ℕ} {n : ℕ} where
  -- a finished thread blocks
  pub step_still : get_or depths thread 0 ≡ 0 → Steps t map bounds ss thread labels depths ls cs o n labels depths ls cs o (Err FinishedThread)
  step_still z = record {
    steps = λ h. record {
      blocks = step_finished (labelled h.loaded.program) thread h.state (none h (stacked h).0 (stacked h).1);
      present = h.present;
    };
  }
    where
      none : (h : Stepping t map bounds ss thread labels depths ls cs o n) (s : Stack ℕ) → at h.state.threads thread ≡ is s
          → at h.state.threads thread ≡ is []
      none h [] e = e
      none h (f ∷ s) e = absurd (omega (arith, (h.present.threads.each thread (f ∷ s) e).depth, z))

  module _ {ls' cs' o' : List ℕ} {turned : Result Turn Reason} (z : get_or depths thread 0 ≡ 0 → ⊥)
      (T : Turns t thread (get_or labels (top_of thread depths) 0) (frame_words * top_of thread depths) ss (get_or map (4 * get_or labels (top_of thread depths) 0) 0) ls cs o n
      ls' cs' o' turned) where
    -- the turn of the uppermost frame
    turn_of : (h : Stepping t map bounds ss thread labels depths ls cs o n) (u : Uppermost h)
        → Turns t thread (get_or labels (top h u) 0) (frame_words * top h u) ss (get_or map (4 * get_or labels (top h u) 0) 0) ls cs o n ls' cs' o' turned
    turn_of h u = subst (λ k. Turns t thread (get_or labels k 0) (frame_words * k) ss (get_or map (4 * get_or labels k 0) 0) ls cs o n ls' cs' o' turned) u.top T

    -- what it answers
    answers : (h : Stepping t map bounds ss thread labels depths ls cs o n) (u : Uppermost h)
        → U.Answers t h.loaded.program thread u.frame.proc u.frame.code (hand_of h u) (frame_words * top h u) ss h.lent n ls' cs' o' turned
    unfolding turn_at
    answers h u = (turn_of h u).answers (turn_at h u (top h u) refl)

    -- it blocks
    pub step_blocked : {why : Reason} → turned ≡ Err why → Steps t map bounds ss thread labels depths ls cs o n labels depths ls' cs' o' (Err why)
    step_blocked {why} e = record {
      steps = λ h.
          let u = uppermost h z in
          let A = subst (U.Answers t h.loaded.program thread u.frame.proc u.frame.code (hand_of h u) (frame_words * top h u) ss h.lent n ls' cs' o') e (answers h u) in
          stays h u ((turn_of h u).beside (turn_at h u (top h u) refl)) (A.code u.below) A.works;
    }

    -- the answer of a turn that was made
    made : {turn : Turn} → turned ≡ Ok turn → (h : Stepping t map bounds ss thread labels depths ls cs o n) (u : Uppermost h)
        → U.Answers t h.loaded.program thread u.frame.proc u.frame.code (hand_of h u) (frame_words * top h u) ss h.lent n ls' cs' o' (Ok turn)
    made e h u = subst (U.Answers t h.loaded.program thread u.frame.proc u.frame.code (hand_of h u) (frame_words * top h u) ss h.lent n ls' cs' o') e (answers h u)

    -- where it leads is there
    pub step_moving : {turn : Turn} → turned ≡ Ok turn → Stepping t map bounds ss thread labels depths ls cs o n → Moving turn thread (top_of thread depths) labels depths
    step_moving {turn} e h =
        let u = uppermost h z in
        record {
          callee = callee_few h u ls' cs' o' turn (made e h u);
          label = rw u.top u.label.few;
          there = u.there;
          room = omega (arith, u.top, u.there, u.few);
          some = omega (arith, u.depth);
          few = omega (arith, u.depth, u.few);
          labels_long = h.present.threads.labels_long;
          depths_long = h.present.threads.depths_long;
        }

    -- it is made
    pub step_moves : {turn : Turn} {labels' depths' : List ℕ} {r : ℕ} → turned ≡ Ok turn
        → Moves turn map bounds thread (top_of thread depths) labels depths n labels' depths' r
        → Steps t map bounds ss thread labels depths ls cs o n labels' depths' ls' cs' o' (Ok r)
    step_moves {turn} {labels'} {depths'} {r} e M = record {
      steps = λ h.
          let u = uppermost h z in
          answered h u cs' o' turn ((turn_of h u).beside (turn_at h u (top h u) refl)) (made e h u)
          (subst (λ k. Moves turn map bounds thread k labels depths n labels' depths' r) u.top M);
    }

  -- numbers on the way
  pub step_small : Stepping t map bounds ss thread labels depths ls cs o n → (get_or depths thread 0 ≡ 0 → ⊥) → Small thread labels depths
  step_small h z = let u = uppermost h z in record {
    depth = omega (arith, u.depth, u.few);
    top = omega (arith, u.top, u.there, u.few);
    label = rw u.top u.label.few;
  }

-- ---- the same of a place i, which is the thread's number

module _ {t map bounds ss : List ℕ} {thread i : ℕ} {labels depths ls cs o : List ℕ} {n : ℕ} (same : i ≡ thread) where
  -- a finished thread blocks
  pub place_still : get_or depths i 0 ≡ 0 → Steps t map bounds ss thread labels depths ls cs o n labels depths ls cs o (Err FinishedThread)
  place_still z = step_still (rw same at z)

  -- numbers on the way
  pub place_small : Stepping t map bounds ss thread labels depths ls cs o n → (get_or depths i 0 ≡ 0 → ⊥) → Small i labels depths
  place_small h z = rw same (step_small h (rw same at z))

  -- its uppermost frame takes a turn
  pub place_turning : Stepping t map bounds ss thread labels depths ls cs o n → (get_or depths i 0 ≡ 0 → ⊥)
      → Turning t thread (get_or labels (top_of i depths) 0) (frame_words * top_of i depths) ss (get_or map (4 * get_or labels (top_of i depths) 0) 0) ls cs o n
  place_turning h z = rw same (step_turning h (rw same at z))

  module _ {ls' cs' o' : List ℕ} {turned : Result Turn Reason} (z : get_or depths i 0 ≡ 0 → ⊥)
      (T : Turns t thread (get_or labels (top_of i depths) 0) (frame_words * top_of i depths) ss (get_or map (4 * get_or labels (top_of i depths) 0) 0) ls cs o n
      ls' cs' o' turned) where
    -- it blocks
    pub place_blocked : {why : Reason} → turned ≡ Err why → Steps t map bounds ss thread labels depths ls cs o n labels depths ls' cs' o' (Err why)
    place_blocked e = step_blocked (rw same at z) (rw same at T) e

    -- where it leads is there
    pub place_moving : {turn : Turn} → turned ≡ Ok turn → Stepping t map bounds ss thread labels depths ls cs o n
        → Moving turn i (top_of i depths) labels depths
    place_moving e h = rw same (step_moving (rw same at z) (rw same at T) e h)

    -- it is made
    pub place_moves : {turn : Turn} {labels' depths' : List ℕ} {r : ℕ} → turned ≡ Ok turn
        → Moves turn map bounds i (top_of i depths) labels depths n labels' depths' r
        → Steps t map bounds ss thread labels depths ls cs o n labels' depths' ls' cs' o' (Ok r)
    place_moves e M = step_moves (rw same at z) (rw same at T) e (rw same at M)
