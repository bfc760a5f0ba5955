-- Deciding the step of a run: what stands at its position, and that the decided step is due.
use Prim.Native.Nat.{ℕ, suc, ◌+◌, ◌*◌, ◌-◌, ◌≤◌, ◌<◌}
use native.Mathlib.Omega.{arith}
use mathlib.Core.Path.{◌≡◌, refl, sym, ap, ◌∙◌}
use mathlib.Core.List.{List, ◌∷◌}
use mathlib.Core.Bool.{Bool, true, false}
use lib.ListN.{length, get_or, drop}
use lib.Seq.{drop-cons}
use lib.Dec.{eqb}
use borrow.Author.Tests.{eqb-true, eqb-false}
use Rattle.value.specs.Maybe.{is}
use Rattle.basics.specs.Places.{number_at}
use Rattle.value.proofs.Laws.Maybes.{is_inj}
use Rattle.value.proofs.Laws.Tests.{never, both_passed}
use Rattle.value.proofs.Laws.Lists.{each_at}
use Rattle.basics.specs.Laws.Places.{number_at_lem}
use Rattle.format.specs.Syntax.{Expr, Instr, assign, write, read, while, if, call, atomic, select, Block, end, step, ◌⊕◌, Program, Plain}
use Rattle.format.specs.Syntax.{sequential}
use Rattle.format.specs.Encode.{table}
use Rattle.format.specs.Rules.{allowed_i, named_i}
use Rattle.labels.specs.Spots.{CodeAt}
use Rattle.format.proofs.Laws.Grammar.{InstrAt, SelectAt, select_here}
use Rattle.format.proofs.Laws.Names.{NamesI, names?}
use Rattle.format.proofs.Laws.Procs.{body_in, takes_at}
use Rattle.format.proofs.Laws.Sound.{LocalsRight, Sound}
use Rattle.labels.specs.Laws.Spots.{step_byte}
use Rattle.format.proofs.Laws.Stands as Stands
use Rattle.format.specs.Decode.{max_nesting}
use Rattle.decide.specs.declared.step.Step.{Step}
use Rattle.sequential.specs.declared.machine.State.{State}
use Rattle.semantics.specs.Step.{Frame}
use Rattle.semantics.specs.Copy as C
use Rattle.engine.specs.Work.{Beside, frame_words}
use Rattle.decide.specs.Decided.{Act, assigns, writes, reads, tests, calls, returns, act_of, act_end, args_of, Tests, ActAt, Poised, Lies}
use Rattle.decide.specs.Decided.{Kept, DecidesAll, SelectHere, Selects, Selectable}
use Rattle.jumps.specs.Jumps.{Settled, last, first}
use Rattle.sequential.specs.Frames.{FrameAt}
use Rattle.sequential.specs.Sequential.{Present, leaves, acts, selects, Facing, Faced, Faces, UsedUp}
use Rattle.decide.specs.Laws.Deciding.{act_at}
use Rattle.sequential.proofs.Standing.{Here, stands_here, settled_here}
use Rattle.sequential.proofs.Framing.{frame_small, stacked_below, stacked_few}
use Rattle.decide.proofs.Deciding.{assign_inside, call_inside, act_tests}
use Rattle.sequential.proofs.CarryingOut.{tower_of, deep_of, top_frame, some_size}

-- ---- what stands there

-- the end of a body, an instruction that asks something, or a select
pub data View (t : List ℕ) (p : Program Plain) (f : Frame Plain) (k : ℕ) : Type 0 where
  ending : f.code ≡ end → get_or t k 0 ≡ 0 → View t p f k
  acting : (i : Instr Plain) (d r : Block Plain) (a : Act) → CodeAt p.procs f.proc k (step tt i d) r
      → f.code ≡ step tt i (d ⊕ r) → act_of i ≡ is a
      → ActAt t k (length f.env) a (act_end k i) → (get_or t k 0 ≡ 0x27 → ⊥) → View t p f k
  choosing : (a b : ℕ) (d r : Block Plain) → CodeAt p.procs f.proc k (step tt (select a b) d) r → f.code ≡ step tt (select a b) (d ⊕ r)
      → get_or t k 0 ≡ 0x27 → k + 5 ≤ length t → number_at 2 t (k + 1) ≡ a → number_at 2 t (k + 3) ≡ b → a < length p.sizes → View t p f k

module _ {t : List ℕ} {p : Program Plain} (same : t ≡ table sequential p) (sound : Sound sequential p) where
  -- names, as the test says it
  names_pass : (X : ℕ) (i : Instr Plain) → NamesI p X i → named_i p X i ≡ true
  names_pass X i h = (both_passed (named_i p X i) _ ((names? p X (step tt i end)).of (h, tt))).0

  -- a call has few arguments
  few_args : (X m : ℕ) (es : List Expr) → NamesI p X (call m es) → length es ≤ frame_words
  few_args X m es h =
      let q = takes_at p.procs m (length es) h.0 in
      let right : LocalsRight frame_words q.0 = each_at (LocalsRight frame_words) p.procs m sound.locals q.1 in
      omega (arith, q.2, right.params, right.locals)

  module _ {f : Frame Plain} {k j X : ℕ} (d r : Block Plain) (long : length f.env ≡ X) where
    -- an instruction that asks something
    acted : (i : Instr Plain) (a : Act) → CodeAt p.procs f.proc k (step tt i d) r
        → f.code ≡ step tt i (d ⊕ r) → act_of i ≡ is a → InstrAt t k (max_nesting - 1) i j
        → NamesI p X i → length (args_of a) ≤ frame_words → (get_or t k 0 ≡ 0x27 → ⊥) → View t p f k
    acted i a c e q h n few other =
        acting i d r a c e q (rw long (act_at t k X p i a q h.stands h.fits.1 (names_pass X i n) few)) other

    -- by the instruction
    view_instr : (i : Instr Plain) → CodeAt p.procs f.proc k (step tt i d) r → f.code ≡ step tt i (d ⊕ r) → InstrAt t k (max_nesting - 1) i j
        → NamesI p X i → allowed_i (body_in sequential f.proc) i ≡ true → View t p f k
    view_instr (assign x e) c q h n w = acted (assign x e) (assigns x e) c q refl h n (omega arith) (λ z. omega (arith, Stands.first h.stands))
    view_instr (write y o e) c q h n w = acted (write y o e) (writes y o e) c q refl h n (omega arith) (λ z. omega (arith, Stands.first h.stands))
    view_instr (read x y o) c q h n w = acted (read x y o) (reads x y o) c q refl h n (omega arith) (λ z. omega (arith, Stands.first h.stands))
    view_instr (while e b) c q h n w = acted (while e b) (tests e) c q refl h n (omega arith) (λ z. omega (arith, Stands.first h.stands))
    view_instr (if e b b') c q h n w = acted (if e b b') (tests e) c q refl h n (omega arith) (λ z. omega (arith, Stands.first h.stands))
    view_instr (call m es) c q h n w = acted (call m es) (calls m es) c q refl h n (few_args X m es n) (λ z. omega (arith, Stands.first h.stands))
    view_instr (atomic b) c q h n w = absurd (never w)
    view_instr (select a b) c q h n w =
        let byte : get_or t k 0 ≡ 0x27 = Stands.first h.stands in
        let s : SelectAt {A = Plain} t k (max_nesting - 1) (select a b) j = select_here h byte in
        choosing a b d r c q byte s.room (number_at_lem 2 t (k + 1) ∙ sym (first_is s.is)) (number_at_lem 2 t (k + 3) ∙ sym (second_is s.is)) n.0
      where
        first_is : {x y u v : ℕ} → ◌≡◌ {A = Instr Plain} (select x y) (select u v) → x ≡ u
        first_is e = cc

        second_is : {x y u v : ℕ} → ◌≡◌ {A = Instr Plain} (select x y) (select u v) → y ≡ v
        second_is e = cc

  -- whatever it is
  pub view : {ls : List ℕ} {d k : ℕ} {f : Frame Plain} → FrameAt p.procs ls d k f → View t p f k
  view {k = k} {f = f} F = go F.code
    where
      go : Settled p.procs f.proc k f.code → View t p f k
      go (last c e) = ending e (Stands.first (stands_here same sound c))
      go (first i d r c e) =
          let h : Here t p f.proc F.proc.locals k f.code = settled_here same sound F.found (first i d r c e) (step_byte tt i d (stands_here same sound c)) in
          view_instr h.left h.after F.long h.instr h.code h.same h.there h.named h.allowed

-- ---- what deciding asks

module _ {t ts ss ls cs : List ℕ} {s : State} (f : Facing t ts ss ls cs s) where
  -- the top frame
  frame : FrameAt f.loaded.program.procs ls (length f.below) s.at f.frame
  frame = top_frame (tower_of f.present f.stack)

  -- what stands there
  viewed : View t f.loaded.program f.frame s.at
  viewed = view f.loaded.same f.loaded.sound frame

  -- memory in words
  lies : Lies ss cs f.config.memory
  lies = record { bases = rw f.present.sizes f.loaded.starts; holds = f.present.memory }

  -- where its words are
  base : frame_words * (s.depth - 1) ≡ frame_words * length f.below
  base = omega (arith, deep_of f.present f.stack)

  -- poised on an act
  poise : (a : Act) (j : ℕ) → ActAt t s.at (length f.frame.env) a j → Poised t ls (frame_words * (s.depth - 1)) s.at
  poise a j h = record {
    env = f.frame.env;
    framed = rw base frame.framed;
    act = a;
    j = j;
    here = h;
    narrow = frame_small f.loaded.program.procs f.loaded.sound.locals frame;
    room = omega (arith, f.present.depth, f.present.long, stacked_few f.loaded.sound.calls f.present.frames, f.loaded.sound.procs.high);
  }

-- cells at work
pub facing_kept : {t ts ss ls cs : List ℕ} {s : State} → Facing t ts ss ls cs s → Kept ss cs
facing_kept f = record { memory = f.config.memory; lies = lies f }

-- no select stands at i
pub record NoSelect (t : List ℕ) (i : ℕ) : Type 0 where
  pub other : get_or t i 0 ≡ 0x27 → ⊥

-- it has another mark, by each way of the match
module _ {t : List ℕ} {i : ℕ} where
  pub no_select_return : get_or t i 0 ≡ 0x00 → NoSelect t i
  no_select_return e = record { other = λ q. omega arith }

  pub no_select_assign : get_or t i 0 ≡ 0x20 → NoSelect t i
  no_select_assign e = record { other = λ q. omega arith }

  pub no_select_write : get_or t i 0 ≡ 0x21 → NoSelect t i
  no_select_write e = record { other = λ q. omega arith }

  pub no_select_read : get_or t i 0 ≡ 0x22 → NoSelect t i
  no_select_read e = record { other = λ q. omega arith }

  pub no_select_call : get_or t i 0 ≡ 0x25 → NoSelect t i
  no_select_call e = record { other = λ q. omega arith }

  -- or none of them
  pub no_select_other : (get_or t i 0 ≡ 0x27 → ⊥) → NoSelect t i
  no_select_other n = record { other = n }

module _ {t ts ss ls cs : List ℕ} {s : State} where
  -- where no select stands
  pub facing_poised : Facing t ts ss ls cs s → NoSelect t s.at → s.at < length t → Poised t ls (frame_words * (s.depth - 1)) s.at
  facing_poised f n l = go (viewed f)
    where
      go : View t f.loaded.program f.frame s.at → Poised t ls (frame_words * (s.depth - 1)) s.at
      go (ending e z) = poise f returns s.at (record { mark = z; inside = l })
      go (acting i d r a c e q h o) = poise f a (act_end s.at i) h
      go (choosing a b d r c e z u v w y) = absurd (n.other z)

  -- an assignment has a target
  pub facing_target : Facing t ts ss ls cs s → get_or t s.at 0 ≡ 0x20 → s.at < length t → s.at + 1 < length t
  facing_target f q l = assign_inside (facing_poised f (no_select_assign q) l) q

  -- a call has a callee and a number of arguments
  pub facing_callee : Facing t ts ss ls cs s → get_or t s.at 0 ≡ 0x25 → s.at < length t → s.at + 4 ≤ length t
  facing_callee f q l = call_inside (facing_poised f (no_select_call q) l) q

  -- no other mark than those of a test is left
  pub facing_tests : Facing t ts ss ls cs s → NoSelect t s.at → s.at < length t → (get_or t s.at 0 ≡ 0x25 → ⊥) → (get_or t s.at 0 ≡ 0x00 → ⊥)
      → (get_or t s.at 0 ≡ 0x20 → ⊥) → (get_or t s.at 0 ≡ 0x21 → ⊥) → (get_or t s.at 0 ≡ 0x22 → ⊥) → Tests t s.at
  facing_tests f n l n₁ n₂ n₃ n₄ n₅ = act_tests (facing_poised f n l) n₁ n₂ n₃ n₄ n₅

  -- where one does
  pub facing_selectable : Facing t ts ss ls cs s → get_or t s.at 0 ≡ 0x27 → Selectable t ss cs s.at
  facing_selectable f q = go (viewed f)
    where
      go : View t f.loaded.program f.frame s.at → Selectable t ss cs s.at
      go (ending e z) = absurd (omega arith)
      go (acting i d r a c e w h o) = absurd (o q)
      go (choosing a b d r c e z u v w y) = record {
        a = a;
        b = b;
        memory = f.config.memory;
        here = record { inside = u; target = v; source = w; there = rw f.present.sizes (some_size f.loaded.program.sizes a f.loaded.sound.sizes y) };
        lies = lies f;
      }

  -- and there is an entry
  pub facing_entry : Facing t ts ss ls cs s → get_or t s.at 0 ≡ 0x27 → s.taken < length ts
  facing_entry f q = f.entry q

-- ---- what was decided is due

-- no code is an instruction
end_step : {G : Type 0} {i : Instr Plain} {b : Block Plain} → ◌≡◌ {A = Block Plain} end (step tt i b) → G
end_step e = let z : ◌≡◌ {A = ℕ} 0 1 = cc in absurd (omega arith)

-- one instruction is first
same_instr : {i j : Instr Plain} {b c : Block Plain} → ◌≡◌ {A = Block Plain} (step tt i b) (step tt j c) → i ≡ j
same_instr e = cc

-- the words above the frames were stored
pub present_above : {p : Program Plain} {lent ts ls ls' bs cs es : List ℕ} {s : State} {c : C.Config} {a b : ℕ} → Sound sequential p
    → Present p lent ts ls bs cs es s c → Beside ls ls' a b → frame_words * s.depth ≤ a → Present p lent ts ls' bs cs es s c
present_above {p} sound P B h = record {
  depth = P.depth;
  frames = stacked_below p.procs sound.locals B (omega (arith, P.depth)) P.frames;
  long = B.long ∙ P.long;
  backs = P.backs;
  memory = P.memory;
  full = P.full;
  sizes = P.sizes;
  todo = P.todo;
  taken = P.taken;
  last = P.last;
  events = P.events;
}

module _ {t ts ss ls cs : List ℕ} {s : State} where
  -- an instruction, or a return
  pub faces_act : {ls' : List ℕ} {x : Step} → NoSelect t s.at → s.at < length t → 1 ≤ s.depth
      → DecidesAll t ls ls' (frame_words * (s.depth - 1)) s.at (Lies ss cs) x → Faces t ts ss ls cs s ls' x
  unfolding poise
  faces_act {ls'} {x} n l some D = record { faced = λ f. go f (viewed f) }
    where
      up : frame_words * (s.depth - 1) + frame_words ≡ frame_words * s.depth
      up = omega arith

      go : (f : Facing t ts ss ls cs s) → View t f.loaded.program f.frame s.at → Faced f ls' x
      go f (ending e z) =
          let h : Poised t ls (frame_words * (s.depth - 1)) s.at = poise f returns s.at (record { mark = z; inside = l }) in
          record {
            decision = leaves e (D.decides.step h f.config.memory (lies f));
            present = present_above f.loaded.sound f.present (D.passes.beside h) (omega arith);
            args = λ m es b vs q w. end_step (sym e ∙ q);
          }
      go f (acting i d r a c e q h o) =
          let g : Poised t ls (frame_words * (s.depth - 1)) s.at = poise f a (act_end s.at i) h in
          record {
            decision = acts i d r a c e q (D.decides.step g f.config.memory (lies f));
            present = present_above f.loaded.sound f.present (D.passes.beside g) (omega arith);
            args = λ m es b vs u w.
                let one : i ≡ call m es = same_instr (sym e ∙ u) in
                let asked : args_of a ≡ es = ap args_of (is_inj (sym q ∙ ap act_of one)) in
                rw up at (D.passes.passed g vs (rw asked w));
          }
      go f (choosing a b d r c e z u v w y) = absurd (n.other z)

  -- a select
  pub faces_select : {x : Step} {u : ℕ} → get_or t s.at 0 ≡ 0x27 → u ≡ get_or ts s.taken 0 → Selects t ss cs s.at u x → Faces t ts ss ls cs s ls x
  faces_select {x} {u} q g S = record { faced = λ f. go f (viewed f) }
    where
      go : (f : Facing t ts ss ls cs s) → View t f.loaded.program f.frame s.at → Faced f ls x
      go f (ending e z) = absurd (omega arith)
      go f (acting i d r a c e w h o) = absurd (o q)
      go f (choosing a b d r c e z o v w y) =
          let next : f.config.todo ≡ u ∷ drop (suc s.taken) ts =
          f.present.todo ∙ drop-cons ts s.taken 0 (f.entry q) ∙ ap (◌∷ drop (suc s.taken) ts) (sym g)
          in
          let here : SelectHere t s.at a b f.config.memory =
          record { inside = o; target = v; source = w; there = rw f.present.sizes (some_size f.loaded.program.sizes a f.loaded.sound.sizes y) }
          in
          record {
            decision = selects a b u (drop (suc s.taken) ts) d r c e next (S.step a b f.config.memory here (lies f));
            present = f.present;
            args = λ m es k vs p i. clash (sym e ∙ p);
          }
        where
          clash : {G : Type 0} {a b m : ℕ} {es : List Expr} {k l : Block Plain} → ◌≡◌ {A = Block Plain} (step tt (select a b) k) (step tt (call m es) l) → G
          clash e = let z : ◌≡◌ {A = ℕ} 0 1 = cc in absurd (omega arith)

-- one law for each way
pub ruleset facing_ways = (
  no_select_return,
  no_select_assign,
  no_select_write,
  no_select_read,
  no_select_call,
  no_select_other,
  facing_kept,
  facing_poised,
  facing_target,
  facing_callee,
  facing_tests,
  facing_selectable,
  facing_entry,
  faces_act,
  faces_select,
)

-- ---- "used up (select and no entry)"

module _ {t ts : List ℕ} {s : State} where
  -- a select
  pub used_select : {r : Bool} → get_or t s.at 0 ≡ 0x27 → s.taken ≤ length ts → r ≡ eqb s.taken (length ts) → UsedUp t ts s r
  used_select q l e = record {
    yes = λ y. (q, eqb-true s.taken (length ts) (sym e ∙ y));
    no = λ n z. let other = eqb-false s.taken (length ts) (sym e ∙ n) in omega arith;
  }

  -- anything else
  pub used_other : (get_or t s.at 0 ≡ 0x27 → ⊥) → UsedUp t ts s false
  used_other n = record { yes = λ y. absurd (never y); no = λ e z. absurd (n z) }

-- one law for each way
pub ruleset used_ways = (used_select, used_other)
