-- An instruction of a frame: what it asks for where it stands, and an atomic block in one go.
use Prim.Native.Nat.{ℕ, ◌+◌, ◌-◌, ◌^◌, ◌≤◌, ◌<◌}
use native.Mathlib.Omega.{arith}
use mathlib.Core.Path.{◌≡◌, refl, sym, ap, subst, ◌∙◌}
use mathlib.Core.List.{List, [], ◌∷◌, ◌++◌, map}
use mathlib.Core.Bool.{Bool, true, false}
use lib.ListN.{length, get_or}
use lib.Dec.{eqb}
use Rattle.value.specs.Maybe.{is, either}
use Rattle.value.specs.Try.{Try, has, lacks, ◌⟫◌}
use Rattle.value.specs.declared.Reason.{Reason}
use Rattle.value.specs.Lists.{at}
use Rattle.value.specs.Values.{number, place, truth}
use Rattle.value.proofs.Laws.Maybes.{is_inj, missing}
use Rattle.value.proofs.Laws.Tries.{has_inj, chain_has}
use Rattle.format.specs.Syntax.{local, Instr, assign, write, read, while, if, call, atomic, select, Block, step, Proc, Program, Plain, concurrent}
use Rattle.format.specs.Encode.{instr}
use Rattle.format.specs.Labels.{labelled}
use Rattle.format.specs.Rules.{allowed, allowed_i, named, named_i, max_locals}
use Rattle.format.specs.Decode.{max_nesting}
use Rattle.format.proofs.Laws.Grammar.{BlockAt, AtomicAt, atomic_here, block_inside, instr_inside}
use Rattle.format.proofs.Laws.Procs.{body_in}
use Rattle.decide.specs.declared.step.Step.{Step}
use Rattle.decide.specs.declared.step.Step.TheVariants as S
use Rattle.atomic.specs.declared.block.Done.{Done}
use Rattle.std.specs.Prelude.{Result, Ok, Err}
use Rattle.semantics.specs.Memory.{Env, eval, evals, index, Memory, cell, Event}
use Rattle.semantics.specs.Step.{Stack, Moved, entered, quiet, runs}
use Rattle.semantics.specs.Threads.{Atomic, size}
use Rattle.semantics.specs.Calls.{unlabelled}
use Rattle.engine.specs.Work.{frame_words, Beside, Framed}
use Rattle.engine.specs.Laws.Work.{beside_same}
use Rattle.decide.specs.Decided.{Act, act_of, act_end, args_of, args_in, branch, decided, ActAt}
use Rattle.decide.specs.Decided as D
use Rattle.decide.specs.Laws.Deciding.{does, act_at}
use Rattle.atomic.specs.Acts.{within, act}
use Rattle.atomic.specs.Doing.{Works, Doing, DoesWhole}
use Rattle.atomic.specs.Laws.Acting.{later, acts}
use Rattle.atomic.specs.Laws.Fitting.{through}
use Rattle.atomic.specs.Laws.Standing.{Running}
use Rattle.atomic.specs.Laws.Threading.{beside_wide}
use Rattle.atomic.proofs.Inside.{came, stopped}
use Rattle.atomic.proofs.InsideBlock.{bare, same_later, chain_none}
use Rattle.concurrent.specs.Turning.{code_of}
use Rattle.concurrent.specs.Laws.Leading.{Called, Leads, leads}
use Rattle.concurrent.proofs.TurningAtomic.{leaves, deeper}
use Rattle.concurrent.proofs.TurningAsked.{code_instr, plain_act, act_args, act_past}
use Rattle.report.proofs.Unlabelling.{without, act_without}

-- ---- what is asked

-- an instruction, the first of code c of procedure m, stands at i, with locals, memory and events as `a` says
pub record Turning (t : List ℕ) (thread fb : ℕ) (bs : List ℕ) (i : ℕ) (ls cs o : List ℕ) (n : ℕ) : Type 0 where
  pub p : Program Plain
  pub m : ℕ
  pub c : Block ℕ
  pub running : Running t p m i c
  pub a : Atomic
  pub es : List ℕ
  pub works : Works fb bs es ls cs o n a
  pub full : (q : Proc ℕ) → at (labelled p).procs m ≡ is q → length a.env ≡ q.locals
  pub params : (q : ℕ) (r : Proc ℕ) → at (labelled p).procs q ≡ is r → (r.params ≤ r.locals) × (r.locals ≤ max_locals)
  pub few : n + length t < 2 ^ 64

module _ {t : List ℕ} {thread fb : ℕ} {bs : List ℕ} {i : ℕ} {ls cs o : List ℕ} {n : ℕ} (h : Turning t thread fb bs i ls cs o n) (ls' cs' o' : List ℕ) where
  -- what its code does above the frames s
  abbrev pub doing : Stack ℕ → Try (Moved ℕ)
  doing s = code_of h.p thread h.m h.c h.a s

  -- the code goes on after it, with new locals and memory `b` and these new events
  pub record Went (k : ℕ) : Type 0 where
    pub b : Atomic
    pub new : List Event
    pub code : (s : Stack ℕ) → doing s
        ≡ has (record { stack = record { proc = h.m; env = b.env; code = h.running.rest } ∷ s; memory = b.memory; events = new })
    pub log : b.events ≡ h.a.events ++ map unlabelled new
    pub works : Works fb bs h.es ls' cs' o' k b
    pub same : length b.env ≡ length h.a.env
    pub beside : Beside ls ls' fb (fb + frame_words + frame_words)
    pub few : k ≤ n + length t

  -- it is a test that comes out as q
  pub record Came (q : Bool) : Type 0 where
    pub code : (s : Stack ℕ) → doing s
        ≡ has (quiet (record { proc = h.m; env = h.a.env; code = branch q h.running.tag h.running.instr h.running.rest } ∷ s) h.a.memory)
    pub works : Works fb bs h.es ls' cs' o' n h.a
    pub beside : Beside ls ls' fb (fb + frame_words + frame_words)

  -- it calls procedure q, whose frame is above
  pub record Calls (q : ℕ) : Type 0 where
    pub called : Called h.p h.m h.a.env h.running.instr q
    pub code : (s : Stack ℕ) → either (eqb q h.m) (runs q s) ≡ false → doing s
        ≡ has (quiet (entered q called.proc called.values ∷ record { proc = h.m; env = h.a.env; code = h.running.rest } ∷ s) h.a.memory)
    pub works : Works fb bs h.es ls' cs' o' n h.a
    pub above : Framed ls' (fb + frame_words) (entered q called.proc called.values).env
    pub beside : Beside ls ls' fb (fb + frame_words + frame_words)

  -- it blocks
  pub record Stays (why : Reason) : Type 0 where
    pub code : (s : Stack ℕ) → doing s ≡ lacks why
    pub works : Works fb bs h.es ls' cs' o' n h.a
    pub beside : Beside ls ls' fb (fb + frame_words + frame_words)

-- ---- where it ends

-- a while or an if
abbrev pub IsTest : Instr ℕ → Type 0
IsTest (while e b) = Unit {0}
IsTest (if e b c) = Unit {0}
IsTest (assign x e) = ⊥
IsTest (write y o e) = ⊥
IsTest (read x y o) = ⊥
IsTest (call q es) = ⊥
IsTest (atomic b) = ⊥
IsTest (select x y) = ⊥

-- a step of instruction s at i: it goes on behind the instruction, or behind the expression of a test
abbrev pub Ended : ℕ → Instr ℕ → Step → Type 0
Ended i s (S.Assign x v j) = j ≡ i + length (instr s)
Ended i s (S.Read x l k v j) = j ≡ i + length (instr s)
Ended i s (S.Write l k c v j) = j ≡ i + length (instr s)
Ended i s (S.Test q j) = (j ≡ act_end i s) × IsTest s
Ended i s (S.Call q j) = j ≡ i + length (instr s)
Ended i s S.Return = ⊥
Ended i s (S.Select c e j) = ⊥
Ended i s (S.Blocked r) = Unit {0}

module _ (i : ℕ) (ρ : Env) (η : Memory) where
  pub ended : (s : Instr ℕ) (k : Act) → act_of s ≡ is k → Ended i s (decided ρ η k (act_end i s))
  ended (assign x e) k f =
      let P : Step → Type 0 = Ended i (assign x e) in
      subst (λ k. P (decided ρ η k (act_end {A = ℕ} i (assign x e)))) (is_inj f) (through P (eval ρ e) _ (λ _ _. tt) (λ v _. refl))
  ended (write y o e) k f =
      let P : Step → Type 0 = Ended i (write y o e) in
      subst (λ k. P (decided ρ η k (act_end {A = ℕ} i (write y o e)))) (is_inj f)
      (through P (eval ρ e) _ (λ _ _. tt) λ v _.
      through P (eval ρ o ⟫ number) _ (λ _ _. tt) λ z _.
      through P (eval ρ (local y) ⟫ place) _ (λ _ _. tt) λ l _.
      through P (index z) _ (λ _ _. tt) λ j _.
      through P (cell η l j) _ (λ _ _. tt) λ u _. refl)
  ended (read x y o) k f =
      let P : Step → Type 0 = Ended i (read x y o) in
      subst (λ k. P (decided ρ η k (act_end {A = ℕ} i (read x y o)))) (is_inj f)
      (through P (eval ρ o ⟫ number) _ (λ _ _. tt) λ z _.
      through P (eval ρ (local y) ⟫ place) _ (λ _ _. tt) λ l _.
      through P (index z) _ (λ _ _. tt) λ j _.
      through P (cell η l j) _ (λ _ _. tt) λ u _. refl)
  ended (while e b) k f =
      let P : Step → Type 0 = Ended i (while e b) in
      subst (λ k. P (decided ρ η k (act_end i (while e b)))) (is_inj f) (through P (eval ρ e ⟫ truth) _ (λ _ _. tt) λ v _. (refl, tt))
  ended (if e b d) k f =
      let P : Step → Type 0 = Ended i (if e b d) in
      subst (λ k. P (decided ρ η k (act_end i (if e b d)))) (is_inj f) (through P (eval ρ e ⟫ truth) _ (λ _ _. tt) λ v _. (refl, tt))
  ended (call r es) k f =
      let P : Step → Type 0 = Ended i (call r es) in
      subst (λ k. P (decided ρ η k (act_end {A = ℕ} i (call r es)))) (is_inj f) (through P (evals ρ es) _ (λ _ _. tt) λ vs _. refl)
  ended (atomic b) k f = missing f
  ended (select x y) k f = missing f

-- ---- what it asks for

module _ {t : List ℕ} {thread fb : ℕ} {bs : List ℕ} {i : ℕ} {ls cs o : List ℕ} {n : ℕ} where
  -- there is a byte
  pub turn_inside : Turning t thread fb bs i ls cs o n → i < length t
  turn_inside h = omega (arith, instr_inside h.running.here)

  -- no atomic block: an act
  pub record Asked (h : Turning t thread fb bs i ls cs o n) : Type 0 where
    pub act : Act
    pub acts : act_of h.running.instr ≡ is act
    pub here : ActAt t i (length h.a.env) act (act_end i h.running.instr)
    pub few : length (args_of act) ≤ frame_words
    pub past : i < act_end i h.running.instr
    pub args : args_of act ≡ args_in h.running.instr
    pub code : (s : Stack ℕ) → doing h ls cs o s
        ≡ D.carried (labelled h.p).procs thread h.running.tag h.m h.a.env h.running.tag h.running.instr h.running.rest s
        h.a.memory (decided h.a.env h.a.memory act (act_end i h.running.instr))
    pub leads : Leads h.p h.m h.a.env h.running.tag h.running.instr h.running.rest
        (decided h.a.env h.a.memory act (act_end i h.running.instr))

  pub asked : (h : Turning t thread fb bs i ls cs o n) → (get_or t i 0 ≡ 0x26 → ⊥) → Asked h
  asked h y =
      let w : Running t h.p h.m i h.c = h.running in
      let X : ℕ = length h.a.env in
      let full : X ≡ w.proc.locals = h.full w.proc w.found in
      let k = plain_act h.m w.instr w.here y w.allowed in
      let named : named_i (labelled h.p) X w.instr ≡ true = subst (λ X. named_i (labelled h.p) X w.instr ≡ true) (sym full) w.named in
      let args = act_args h.p X h.params w.instr k.0 k.1 named in
      let here = act_at t i X (labelled h.p) w.instr k.0 k.1 w.here.stands w.here.fits.1 named args.1 in
      record {
        act = k.0;
        acts = k.1;
        here = here;
        few = args.1;
        past = act_past t i X w.instr k.0 k.1 here;
        args = args.0;
        code = λ s.
            ap (λ c. code_of h.p thread h.m c h.a s) w.code
            ∙ code_instr h.p thread h.m w.tag w.instr w.rest h.a s k.1
            ∙ does (labelled h.p).procs thread w.tag h.m h.a.env w.tag w.rest s h.a.memory w.instr (act_end i w.instr)
            k.0 k.1;
        leads = leads h.p h.m h.a.env h.a.memory w.tag w.rest w.instr k.0 (act_end i w.instr) X k.1 named w.calls;
      }

  -- ---- an atomic block

  -- the one that stands there
  record Block' (h : Turning t thread fb bs i ls cs o n) : Type 0 where
    pub block : Block ℕ
    pub is : h.running.instr ≡ atomic block
    pub here : BlockAt t (i + 1) max_nesting block h.running.next
    pub named : named (labelled h.p) (length h.a.env) block ≡ true
    pub allowed : allowed (within h.m) block ≡ true

  atomic_block : (h : Turning t thread fb bs i ls cs o n) → get_or t i 0 ≡ 0x26 → Block' h
  atomic_block h e =
      let w : Running t h.p h.m i h.c = h.running in
      let v : AtomicAt t i (max_nesting - 1) w.instr w.next = atomic_here w.here e in
      record {
        block = v.b;
        is = v.is;
        here = deeper v.body;
        named = names v.b w (subst (λ j. named_i (labelled h.p) w.proc.locals j ≡ true) v.is w.named);
        allowed = subst (λ j. allowed_i (body_in concurrent h.m) j ≡ true) v.is w.allowed;
      }
    where
      names : (b : Block ℕ) (w : Running t h.p h.m i h.c) → named (labelled h.p) w.proc.locals b ≡ true
          → named (labelled h.p) (length h.a.env) b ≡ true
      names b w k = rw (h.full w.proc w.found) k

  -- it can be done
  pub doing_atomic : get_or t i 0 ≡ 0x26 → Turning t thread fb bs i ls cs o n → Doing t thread 0 fb bs (i + 1) max_nesting ls cs o n
  doing_atomic e h =
      let b = atomic_block h e in
      record {
        a = h.a;
        es = h.es;
        works = h.works;
        block = b.block;
        j = h.running.next;
        here = b.here;
        p = labelled h.p;
        named = b.named;
        m = h.m;
        allowed = b.allowed;
        few = omega (arith, h.few, block_inside b.here);
      }

  module _ (h : Turning t thread fb bs i ls cs o n) (e : get_or t i 0 ≡ 0x26) where
    -- what it does, before its code goes on
    inside : Try Atomic
    inside = act thread h.running.tag (atomic_block h e).block (bare h.a)

    -- the code does that
    block_code : (s : Stack ℕ) → doing h ls cs o s ≡ (inside ⟫ leaves h.m h.running.rest s)
    unfolding inside
    block_code s =
        let w = h.running in
        let b = atomic_block h e in
        ap (λ c. code_of h.p thread h.m c h.a s) (w.code ∙ ap (λ j. step w.tag j w.rest) b.is)
        ∙ ap (◌⟫ leaves h.m w.rest s)
        (acts (labelled h.p).procs thread w.tag h.m (size b.block) b.block (omega arith) b.allowed h.a.env h.a.memory [])

    -- and so does the block without labels
    bare_code : act thread 0 (atomic_block h e).block h.a ≡ (inside ⟫ (λ r. has (without r)) ⟫ λ r. has (later h.a.events r))
    unfolding inside
    bare_code =
        same_later thread 0 (atomic_block h e).block h.a
        ∙ ap (◌⟫ λ r. has (later h.a.events r)) (act_without thread h.running.tag (atomic_block h e).block (bare h.a))

  module _ {ls' cs' o' : List ℕ} {r : Result Done Reason} (e : get_or t i 0 ≡ 0x26) (D : DoesWhole t thread 0 fb bs (i + 1) max_nesting ls cs o n ls' cs' o' r)
      (h : Turning t thread fb bs i ls cs o n) where
    -- it blocks
    pub atomic_stays : {why : Reason} → r ≡ Err why → Stays h ls' cs' o' why
    unfolding doing_atomic
    atomic_stays q =
        let w = D.still (doing_atomic e h) _ q in
        let none = chain_none (inside h e) _ (chain_none (inside h e ⟫ λ r. has (without r)) _ (sym (bare_code h e) ∙ stopped q (D.does.does (doing_atomic e h)))) in
        record {
          code = λ s. block_code h e s ∙ ap (◌⟫ leaves h.m h.running.rest s) none;
          works = rw (w.0, w.1, w.2) h.works;
          beside = rw w.0 beside_same;
        }

    -- it is done
    pub atomic_went : {d : Done} → r ≡ Ok d → Went h ls' cs' o' d.events × (d.next ≡ h.running.next)
    unfolding doing_atomic
    atomic_went q =
        let b = atomic_block h e in
        let w = came q (D.does.does (doing_atomic e h)) in
        let v = chain_has (inside h e ⟫ λ r. has (without r)) _ (sym (bare_code h e) ∙ w.is) in
        let x = chain_has (inside h e) _ v.1 in
        let same : later h.a.events (without x.0) ≡ w.a = ap (later h.a.events) (has_inj x.2) ∙ has_inj v.2 in (
          record {
            b = later h.a.events (without x.0);
            new = x.0.events;
            code = λ s. block_code h e s ∙ ap (◌⟫ leaves h.m h.running.rest s) x.1;
            log = refl;
            works = rw same w.worked.works;
            same = ap (λ (a : Atomic). length a.env) same ∙ w.worked.same;
            beside = beside_wide w.worked.beside (omega arith) (omega arith);
            few = omega (arith, w.worked.few, block_inside b.here);
          },
          w.ends,
        )
