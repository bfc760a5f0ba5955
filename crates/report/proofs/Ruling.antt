-- One step of a thread: the instruction of its uppermost frame, and what it is worth to the thread.
use Prim.Native.Nat.{ℕ, suc, ◌+◌, ◌*◌, ◌-◌, ◌≤◌, ◌<◌}
use native.Mathlib.Omega.{arith}
use mathlib.Core.Path.{◌≡◌, refl, sym, ap, subst, ◌∙◌}
use mathlib.Core.List.{List, [], ◌∷◌, ◌++◌, append-nil, map, map-append}
use lib.ListN.{length, get_or, set}
use Rattle.value.specs.Maybe.{is}
use Rattle.value.specs.Try.{has, lacks}
use Rattle.value.specs.declared.Reason.{Reason}
use Rattle.value.specs.Lists.{at}
use Rattle.value.proofs.Laws.Maybes.{is_inj}
use Rattle.value.proofs.Laws.Lists.{at_get_d}
use Rattle.format.specs.Syntax.{Instr, Block, end, ◌⊕◌, Proc, Program, Plain}
use Rattle.format.specs.Labels.{labelled, first, ends_of}
use Rattle.labels.specs.Laws.Spots.{Remains, remains_body}
use Rattle.semantics.specs.Memory.{Event}
use Rattle.semantics.specs.Step.{Frame, Stack, Moved, entered}
use Rattle.semantics.specs.Threads.{Atomic}
use Rattle.semantics.specs.Calls.{unlabelled}
use Rattle.semantics.proofs.Laws.Shapes.{thread_shape}
use Rattle.engine.specs.Work.{Beside, Framed, frame_words}
use Rattle.engine.specs.Events.{Logged}
use Rattle.engine.specs.Laws.Work.{beside_same}
use Rattle.atomic.specs.Doing.{Works}
use Rattle.atomic.specs.Threaded.{thread_frames, FrameAt, Linked, Threaded, most_frames, most_threads}
use Rattle.atomic.specs.Laws.Linked.{few_frames}
use Rattle.atomic.specs.Laws.Threading.{beside_wide, few_locals_lem, frame_small, thread_there}
use Rattle.atomic.specs.Laws.Threading.{threaded_on, threaded_back, threaded_call, threaded_still}
use Rattle.concurrent.specs.Turning.{code_of}
use Rattle.concurrent.specs.Laws.Leading.{Called}
use Rattle.concurrent.proofs.Stepping.{step_is, step_blocks, entered_long}
use Rattle.report.specs.Rows.{most_rows, RowsAt, AllRows, Known}
use Rattle.report.specs.Stepping.{Stepping, Went, Stays, Ready}
use Rattle.report.proofs.Rowed.{Upper, upper, rows_then, rows_called, rows_back, own_rows}
use Rattle.report.proofs.Turning.{Turning}
use Rattle.report.proofs.Standing.{ruled}

-- ---- the uppermost frame

module _ {t : List ℕ} {records : ℕ} {ss : List ℕ} {thread : ℕ} {depths heights rows ends ls cs o : List ℕ} {n : ℕ} where
  -- no thread has many frames
  pub few_all : (h : Stepping t records ss thread depths heights rows ends ls cs o n) (u : ℕ) (r : Stack ℕ) → at h.state.threads u ≡ is r
      → length r ≤ most_frames
  few_all h u r e =
      let g = h.present.threads.each u r e in
      few_frames h.loaded.sound h.present.labels ls (thread_frames * u) r g.frames g.linked

  -- a thread that is not finished has one
  pub record Uppermost (h : Stepping t records ss thread depths heights rows ends ls cs o n) : Type 0 where
    pub frame : Frame ℕ
    pub below : Stack ℕ
    pub found : at h.state.threads thread ≡ is (frame ∷ below)
    pub depth : get_or depths thread 0 ≡ length below + 1
    pub there : thread < most_threads
    pub few : length below < most_frames
    pub here : FrameAt h.loaded.program ls (get_or h.present.labels (thread_frames * thread + length below) 0) (thread_frames * thread + length below) frame
    pub linked : Linked h.loaded.program (frame ∷ below)

  -- the stack of the thread
  pub stacked : (h : Stepping t records ss thread depths heights rows ends ls cs o n) → (s : Stack ℕ) × (at h.state.threads thread ≡ is s)
  stacked h = (
    get_or h.state.threads thread [],
    at_get_d h.state.threads thread [] (omega (arith, h.there, h.present.threads.count)),
  )

  -- there it is
  pub uppermost : (h : Stepping t records ss thread depths heights rows ends ls cs o n) → (get_or depths thread 0 ≡ 0 → ⊥) → Uppermost h
  uppermost h z = by (stacked h).0 (stacked h).1
    where
      by : (s : Stack ℕ) → at h.state.threads thread ≡ is s → Uppermost h
      by [] e = absurd (z (h.present.threads.each thread [] e).depth)
      by (f ∷ s) e =
          let own = h.present.threads.each thread (f ∷ s) e in
          record {
            frame = f;
            below = s;
            found = e;
            depth = omega (arith, own.depth);
            there = thread_there h.loaded.sound thread f s h.present.threads e;
            few = omega (arith, few_all h thread (f ∷ s) e);
            here = own.frames.0;
            linked = own.linked;
          }

  -- what it has at hand
  abbrev pub hand_of : (h : Stepping t records ss thread depths heights rows ends ls cs o n) → Uppermost h → Atomic
  hand_of h u = record { env = u.frame.env; memory = h.state.memory; events = map unlabelled h.so_far }

-- ---- what a step is worth to the thread

module _ {t : List ℕ} {records : ℕ} {ss : List ℕ} {thread : ℕ} {depths heights rows ends ls cs o : List ℕ} {n : ℕ}
    (h : Stepping t records ss thread depths heights rows ends ls cs o n)
    (u : Uppermost h) where
  -- the program
  abbrev program : Program Plain
  program = h.loaded.program

  -- the frame's number
  abbrev top : ℕ
  top = thread_frames * thread + length u.below

  -- what the frame's code does above the frames below
  abbrev does : Moved ℕ → Type 0
  does r = code_of program thread u.frame.proc u.frame.code (hand_of h u) u.below ≡ has r

  -- the words of its frame and of the one above
  wide : {ls' : List ℕ} → Beside ls ls' (frame_words * top) (frame_words * top + frame_words + frame_words)
      → Beside ls ls' (frame_words * top) (frame_words * (top + 2))
  wide W = beside_wide W (omega arith) (omega arith)

  -- the frame of a call
  frame_new : {ls' : List ℕ} {s : Instr ℕ} (q : ℕ) (C : Called program u.frame.proc u.frame.env s q)
      → Framed ls' (frame_words * top + frame_words) (entered q C.proc C.values).env
      → FrameAt program ls' (first (ends_of program q) C.proc.body) (top + 1) (entered q C.proc C.values)
  frame_new q C above =
      let few : C.proc.params ≤ C.proc.locals = (few_locals_lem h.loaded.sound q C.found).0 in
      let place : frame_words * top + frame_words ≡ frame_words * (top + 1) = omega arith in
      record {
        remains = remains_body C.found;
        label = refl;
        framed = rw (← place) above;
        full = λ r i.
            let same : C.proc ≡ r = is_inj (sym C.found ∙ i) in
            entered_long C.proc C.values few C.params ∙ ap (λ (r : Proc ℕ). r.locals) same;
      }

  module _ {ls' cs' o' : List ℕ} (W : Beside ls ls' (frame_words * top) (frame_words * top + frame_words + frame_words)) where
    -- what is present after a step
    present_then : {labels' depths' heights' rows' ends' : List ℕ} {k : ℕ} (r : Moved ℕ) (b : Atomic) → does r → r.memory ≡ b.memory
        → b.events ≡ map unlabelled h.so_far ++ map unlabelled r.events
        → Works (frame_words * top) ss h.lent ls' cs' o' k b → Threaded program labels' depths' ls' (set h.state.threads thread r.stack)
        → AllRows t rows' heights' (set h.state.threads thread r.stack) → Known t ends'
        → k ≤ n + length t → Went h depths' heights' rows' ends' ls' cs' o' k
    present_then {labels'} {k = k} r b d m log w threads rowed known few = record {
      step = record { state = record { threads = set h.state.threads thread r.stack; memory = r.memory }; events = r.events };
      goes = step_is (labelled program) thread h.state u.found r d;
      present = record {
        labels = labels';
        threads = threads;
        rowed = rowed;
        known = known;
        long = W.long ∙ h.present.long;
        memory = rw m w.holds;
        sizes = thread_shape (labelled program).procs thread (u.frame ∷ u.below) h.state.memory r d ∙ h.present.sizes;
        events = subst (λ (evs : List Event). Logged h.lent evs o' k) (log ∙ sym (map-append unlabelled h.so_far r.events)) w.logged;
      };
      few = few;
    }

    -- the frame with other code and locals
    frame_on : (b : Atomic) (rest : Block ℕ) {k : ℕ} → Works (frame_words * top) ss h.lent ls' cs' o' k b
        → length b.env ≡ length u.frame.env → Remains (labelled program).procs u.frame.proc rest
        → FrameAt program ls' (first (ends_of program u.frame.proc) rest) top (record { proc = u.frame.proc; env = b.env; code = rest })
    frame_on b rest w same r = record {
      remains = r;
      label = refl;
      framed = w.framed;
      full = λ q i. same ∙ u.here.full q i;
    }

    -- the code goes on
    pub goes_on : {heights' rows' ends' : List ℕ} {k : ℕ} (b : Atomic) (new : List Event) (rest : Block ℕ)
        → does (record { stack = record { proc = u.frame.proc; env = b.env; code = rest } ∷ u.below; memory = b.memory; events = new })
        → b.events ≡ map unlabelled h.so_far ++ map unlabelled new → Works (frame_words * top) ss h.lent ls' cs' o' k b
        → length b.env ≡ length u.frame.env → Remains (labelled program).procs u.frame.proc rest
        → Beside rows rows' (most_rows * top) (most_rows * (top + 1)) → Beside heights heights' top (top + 1)
        → RowsAt t rows' (most_rows * top) (get_or heights' top 0) rest → Known t ends'
        → k ≤ n + length t → Went h depths heights' rows' ends' ls' cs' o' k
    goes_on b new rest d log w same r R H rowed known few =
        let f : Frame ℕ = record { proc = u.frame.proc; env = b.env; code = rest } in
        let l : ℕ = first (ends_of program u.frame.proc) rest in
        present_then (record { stack = f ∷ u.below; memory = b.memory; events = new }) b d refl log w
        (threaded_on h.loaded.sound thread u.frame u.below h.present.threads u.found f l refl refl (wide W)
        (frame_on b rest w same r))
        (rows_then thread u.frame u.below h.present.rowed u.found (few_all h) f R H rowed)
        known few

    -- the threads, where the frame stays
    threads_still : {k : ℕ} → Works (frame_words * top) ss h.lent ls' cs' o' k (hand_of h u)
        → Threaded program h.present.labels depths ls' h.state.threads
    threads_still w =
        threaded_still h.loaded.sound thread u.frame u.below h.present.threads u.found (wide W)
        (record { remains = u.here.remains; label = u.here.label; framed = w.framed; full = u.here.full })

    -- nothing moves
    pub stays : {why : Reason} → code_of program thread u.frame.proc u.frame.code (hand_of h u) u.below ≡ lacks why
        → Works (frame_words * top) ss h.lent ls' cs' o' n (hand_of h u) → Stays h depths heights rows ends ls' cs' o' why
    stays e w = record {
      blocks = step_blocks (labelled program) thread h.state u.found e;
      present = record {
        labels = h.present.labels;
        threads = threads_still w;
        rowed = h.present.rowed;
        known = h.present.known;
        long = W.long ∙ h.present.long;
        memory = w.holds;
        sizes = h.present.sizes;
        events = w.logged;
      };
    }

    -- a procedure is called
    pub calls_on_lem : {heights' rows' : List ℕ} {s : Instr ℕ} (q : ℕ) (C : Called program u.frame.proc u.frame.env s q) (rest : Block ℕ)
        → does (record {
          stack = entered q C.proc C.values ∷ record { proc = u.frame.proc; env = u.frame.env; code = rest } ∷ u.below;
          memory = h.state.memory;
          events = [];
        })
        → Works (frame_words * top) ss h.lent ls' cs' o' n (hand_of h u) → Framed ls' (frame_words * top + frame_words) (entered q C.proc C.values).env
        → Remains (labelled program).procs u.frame.proc rest
        → Beside rows rows' (most_rows * top) (most_rows * (top + 2)) → Beside heights heights' top (top + 2)
        → RowsAt t rows' (most_rows * top) (get_or heights' top 0) rest
        → RowsAt t rows' (most_rows * (top + 1)) (get_or heights' (top + 1) 0) C.proc.body
        → Went h (set depths thread (length u.below + 2)) heights' rows' ends ls' cs' o' n
    calls_on_lem q C rest d w above r R H mine new =
        let f : Frame ℕ = record { proc = u.frame.proc; env = u.frame.env; code = rest } in
        let g : Frame ℕ = entered q C.proc C.values in
        present_then (record { stack = g ∷ f ∷ u.below; memory = h.state.memory; events = [] }) (hand_of h u) d
        refl (sym (append-nil (map unlabelled h.so_far))) w
        (threaded_call h.loaded.sound thread u.frame u.below h.present.threads u.found f g
        (first (ends_of program u.frame.proc) rest) (first (ends_of program q) C.proc.body) refl
        C.calls refl refl (wide W) (frame_on (hand_of h u) rest w refl r) (frame_new q C above))
        (rows_called thread u.frame u.below h.present.rowed u.found (few_all h) f g R H mine new)
        h.present.known (omega arith)

  -- it returns
  pub comes_back : u.frame.code ≡ end → Went h (set depths thread (length u.below)) heights rows ends ls cs o n
  comes_back e =
      present_then (beside_same {a = frame_words * top} {b = frame_words * top + frame_words + frame_words})
      (record { stack = u.below; memory = h.state.memory; events = [] }) (hand_of h u)
      (ap (λ c. code_of program thread u.frame.proc c (hand_of h u) u.below) e) refl (sym (append-nil (map unlabelled h.so_far)))
      (record {
        framed = u.here.framed;
        room = omega (arith, h.present.long, u.there, u.few);
        small = omega (arith, frame_small h.loaded.sound u.here);
        holds = h.present.memory;
        bases = rw h.present.sizes h.loaded.starts;
        logged = h.present.events;
      })
      (threaded_back h.loaded.sound thread u.frame u.below h.present.threads u.found refl)
      (rows_back thread u.frame u.below h.present.rowed u.found (few_all h))
      h.present.known (omega arith)

-- ---- its instruction

module _ {t : List ℕ} {records : ℕ} {ss : List ℕ} {thread top : ℕ} {depths heights rows ends ls cs o : List ℕ} {n : ℕ}
    (R : Ready t thread top depths heights rows ls n)
    (h : Stepping t records ss thread depths heights rows ends ls cs o n) where
  -- the frame
  abbrev pub upmost : Uppermost h
  upmost = uppermost h R.some

  -- its number
  pub at_top : top ≡ thread_frames * thread + length upmost.below
  at_top = omega (arith, R.is, upmost.depth)

  -- how many rows are below its uppermost one
  pub lower : ℕ
  lower = get_or heights top 0 - 1

  pub lower_is : get_or heights top 0 ≡ suc lower
  unfolding lower
  lower_is = omega (arith, R.high)

  -- where that one is
  pub row_is : most_rows * top + get_or heights top 0 - 1 ≡ most_rows * top + lower
  unfolding lower
  row_is = omega (arith, R.high)

  -- its instruction
  pub up : Upper t rows (most_rows * top) lower upmost.frame.code
  up =
      let own : RowsAt t rows (most_rows * top) (suc lower) upmost.frame.code =
      rw (← lower_is, at_top) (own_rows thread upmost.frame upmost.below h.present.rowed upmost.found (few_all h))
      in
      upper own (rw row_is at R.begins)

  -- it is asked
  unfoldable pub turning : Turning t thread (frame_words * top) ss (get_or rows (most_rows * top + get_or heights top 0 - 1) 0) ls cs o n
  turning =
      let r = ruled h.loaded.same h.loaded.sound upmost.here.remains up.code in
      record {
        p = h.loaded.program;
        m = upmost.frame.proc;
        c = upmost.frame.code;
        running = record {
          proc = r.proc;
          found = r.found;
          tag = up.tag;
          instr = up.instr;
          rest = up.left ⊕ up.rest;
          code = up.code;
          next = up.next;
          here = rw row_is (record { stands = up.here.stands; fits = (omega (arith, up.here.fits.0), up.here.fits.1) });
          named = r.named;
          allowed = r.allowed;
          calls = r.calls;
        };
        a = hand_of h upmost;
        es = h.lent;
        works = record {
          framed = rw at_top upmost.here.framed;
          room = omega (arith, h.present.long, upmost.there, upmost.few, at_top);
          small = omega (arith, frame_small h.loaded.sound upmost.here);
          holds = h.present.memory;
          bases = rw h.present.sizes h.loaded.starts;
          logged = h.present.events;
        };
        full = upmost.here.full;
        params = λ q r i. few_locals_lem h.loaded.sound q i;
        few = h.few;
      }
