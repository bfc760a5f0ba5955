-- What a frame's code asks for where no atomic block stands: a return, or the act of an instruction.
use Prim.Native.Nat.{ℕ, ◌+◌, ◌≤◌, ◌<◌}
use native.Mathlib.Omega.{arith}
use mathlib.Core.Path.{◌≡◌, refl, sym, ap, subst, ◌∙◌}
use mathlib.Core.List.{List}
use mathlib.Core.Bool.{true}
use lib.ListN.{length, get_or}
use lib.Dec.{eqb}
use borrow.Author.Tests.{eqb-true, eqb-false}
use Rattle.value.specs.Maybe.{is}
use Rattle.value.specs.Lists.{at, all}
use Rattle.value.proofs.Laws.Maybes.{is_inj, missing}
use Rattle.value.proofs.Laws.Tests.{by_test, never, both_passed}
use Rattle.format.specs.Syntax.{local, Instr, assign, write, read, while, if, call, atomic}
use Rattle.format.specs.Syntax.{select, Block, end, step, Proc, Program, Plain, concurrent}
use Rattle.format.specs.Labels.{labelled, first, ends_of}
use Rattle.format.specs.Rules.{allowed_i, named_i, takes, max_locals}
use Rattle.format.specs.Rules as Rules
use Rattle.format.proofs.Laws.Stands as S'
use Rattle.format.proofs.Laws.Grammar.{InstrAt, expr_inside}
use Rattle.format.proofs.Laws.Names.{takes?}
use Rattle.format.proofs.Laws.Procs.{body_in, takes_at}
use Rattle.decide.specs.declared.step.Step.{Step}
use Rattle.decide.specs.declared.step.Step.TheVariants as S
use Rattle.semantics.specs.Step.{Stack}
use Rattle.semantics.specs.Step as F
use Rattle.semantics.specs.Threads.{Atomic}
use Rattle.engine.specs.Work.{frame_words}
use Rattle.decide.specs.Decided.{Act, assigns, writes, reads, tests, calls, returns, act_of, act_end, args_of, args_in, decided}
use Rattle.decide.specs.Decided.{ActAt}
use Rattle.decide.specs.Decided as D
use Rattle.concurrent.specs.Turning.{Turning, code_of}
use Rattle.decide.specs.Laws.Deciding.{does, act_at}
use Rattle.atomic.specs.Laws.Standing.{Running, at_end, at_instr}
use Rattle.concurrent.specs.Laws.Leading.{Leads, leads}
use Rattle.concurrent.proofs.TurningAtomic.{turn_inside}

-- the first instruction of code, if it is decided
pub code_instr : (p : Program Plain) (thread m a : ℕ) (i : Instr ℕ) (c : Block ℕ) (x : Atomic) (s : Stack ℕ) {k : Act} → act_of i ≡ is k
    → code_of p thread m (step a i c) x s ≡ F.instr (labelled p).procs thread a m x.env a i c s x.memory
code_instr p thread m a (assign x e) c y s q = refl
code_instr p thread m a (write y o e) c z s q = refl
code_instr p thread m a (read x y o) c z s q = refl
code_instr p thread m a (while e b) c x s q = refl
code_instr p thread m a (if e b d) c x s q = refl
code_instr p thread m a (call n es) c x s q = refl
code_instr p thread m a (atomic b) c x s q = missing q
code_instr p thread m a (select x y) c z s q = missing q

-- what is not an atomic block is an act
pub plain_act : {t : List ℕ} {i d : ℕ} (m : ℕ) (s : Instr ℕ) {j : ℕ} → InstrAt t i d s j → (get_or t i 0 ≡ 0x26 → ⊥)
    → allowed_i (body_in concurrent m) s ≡ true → (k : Act) × (act_of s ≡ is k)
plain_act m (assign x e) h z w = (assigns x e, refl)
plain_act m (write y o e) h z w = (writes y o e, refl)
plain_act m (read x y o) h z w = (reads x y o, refl)
plain_act m (while e b) h z w = (tests e, refl)
plain_act m (if e b c) h z w = (tests e, refl)
plain_act m (call n es) h z w = (calls n es, refl)
plain_act m (atomic b) h z w = absurd (z (S'.first h.stands))
plain_act m (select x y) h z w = absurd (never w)

-- its arguments are those of the instruction, and few
pub act_args : (p : Program Plain) (X : ℕ) → ((q : ℕ) (r : Proc ℕ) → at (labelled p).procs q ≡ is r → (r.params ≤ r.locals) × (r.locals ≤ max_locals))
    → (s : Instr ℕ) (k : Act) → act_of s ≡ is k → named_i (labelled p) X s ≡ true → (args_of k ≡ args_in s) × (length (args_of k) ≤ frame_words)
act_args p X few (assign x e) k q n = rw (← is_inj q) (refl, omega arith)
act_args p X few (write y o e) k q n = rw (← is_inj q) (refl, omega arith)
act_args p X few (read x y o) k q n = rw (← is_inj q) (refl, omega arith)
act_args p X few (while e b) k q n = rw (← is_inj q) (refl, omega arith)
act_args p X few (if e b c) k q n = rw (← is_inj q) (refl, omega arith)
act_args p X few (call r es) k q n =
    let names = both_passed (takes (labelled p).procs r (length es)) (all (Rules.ex (labelled p) X) es) n in
    let callee = takes_at (labelled p).procs r (length es) ((takes? (labelled p).procs r (length es)).so names.0) in
    let small : length es ≤ max_locals = omega (arith, few r callee.0 callee.1, callee.2) in
    rw (← is_inj q) (refl, omega arith)
act_args p X few (atomic b) k q n = missing q
act_args p X few (select x y) k q n = missing q

-- it ends behind where it begins
pub act_past : (t : List ℕ) (i n : ℕ) (s : Instr ℕ) (k : Act) {j : ℕ} → act_of s ≡ is k → ActAt t i n k j → i < j
act_past t i n (assign x e) k {j} q h = let w = subst (λ k. ActAt t i n k j) (sym (is_inj q)) h in omega (arith, expr_inside w.source)
act_past t i n (write y o e) k {j} q h =
    let w = subst (λ k. ActAt t i n k j) (sym (is_inj q)) h in
    omega (arith, expr_inside w.source, expr_inside w.offset)
act_past t i n (read x y o) k {j} q h = let w = subst (λ k. ActAt t i n k j) (sym (is_inj q)) h in omega (arith, expr_inside w.offset)
act_past t i n (while e b) k {j} q h = let w = subst (λ k. ActAt t i n k j) (sym (is_inj q)) h in omega (arith, expr_inside w.test)
act_past t i n (if e b c) k {j} q h = let w = subst (λ k. ActAt t i n k j) (sym (is_inj q)) h in omega (arith, expr_inside w.test)
act_past t i n (call r es) k {j} q h = let w = subst (λ k. ActAt t i n k j) (sym (is_inj q)) h in omega (arith, w.args.stands.ends)
act_past t i n (atomic b) k q h = missing q
act_past t i n (select x y) k q h = missing q

module _ {t : List ℕ} {thread label fb : ℕ} {bs : List ℕ} {i : ℕ} {ls cs o : List ℕ} {n : ℕ} where
  -- what a step of this code means: a return at its end, or a step of its first instruction
  abbrev pub Means : (h : Turning t thread label fb bs i ls cs o n) → ℕ → Instr ℕ → Block ℕ → Step → Type 0
  Means h a s c S.Return = h.c ≡ end
  Means h a s c (S.Assign x v j) = (h.c ≡ step a s c) × Leads h.p h.m h.a.env a s c (S.Assign x v j)
  Means h a s c (S.Read x l k v j) = (h.c ≡ step a s c) × Leads h.p h.m h.a.env a s c (S.Read x l k v j)
  Means h a s c (S.Write l k d v j) = (h.c ≡ step a s c) × Leads h.p h.m h.a.env a s c (S.Write l k d v j)
  Means h a s c (S.Test q j) = (h.c ≡ step a s c) × Leads h.p h.m h.a.env a s c (S.Test q j)
  Means h a s c (S.Call q j) = (h.c ≡ step a s c) × Leads h.p h.m h.a.env a s c (S.Call q j)
  Means h a s c (S.Select k e j) = (h.c ≡ step a s c) × Leads h.p h.m h.a.env a s c (S.Select k e j)
  Means h a s c (S.Blocked why) = Unit {0}

  -- what is asked there
  pub record Asked (h : Turning t thread label fb bs i ls cs o n) : Type 0 where
    pub act : Act
    pub j : ℕ
    pub here : ActAt t i (length h.a.env) act j
    pub few : length (args_of act) ≤ frame_words
    pub past : i < j
    pub tag : ℕ
    pub instr : Instr ℕ
    pub rest : Block ℕ
    pub args : args_of act ≡ args_in instr
    pub code : (s : Stack ℕ) → code_of h.p thread h.m h.c h.a s
        ≡ D.carried (labelled h.p).procs thread label h.m h.a.env tag instr rest s h.a.memory (decided h.a.env h.a.memory act j)
    pub means : Means h tag instr rest (decided h.a.env h.a.memory act j)

  -- at the byte 00, a return
  asked_end : (h : Turning t thread label fb bs i ls cs o n) → get_or t i 0 ≡ 0 → Asked h
  asked_end h e =
      let none : h.c ≡ end = at_end h.stands e in
      record {
        act = returns;
        j = i + 1;
        here = record { mark = e; inside = turn_inside h };
        few = omega arith;
        past = omega arith;
        tag = 0;
        instr = assign 0 (local 0);
        rest = end;
        args = refl;
        code = λ s. ap (λ c. code_of h.p thread h.m c h.a s) none;
        means = none;
      }

  -- any step of the first instruction
  means_first : (h : Turning t thread label fb bs i ls cs o n) (a : ℕ) (s : Instr ℕ) (c : Block ℕ) (u : Step) → h.c ≡ step a s c
      → Leads h.p h.m h.a.env a s c u → Means h a s c u
  means_first h a s c S.Return e l = absurd l
  means_first h a s c (S.Assign x v j) e l = (e, l)
  means_first h a s c (S.Read x y k v j) e l = (e, l)
  means_first h a s c (S.Write y k d v j) e l = (e, l)
  means_first h a s c (S.Test q j) e l = (e, l)
  means_first h a s c (S.Call q j) e l = (e, l)
  means_first h a s c (S.Select k d j) e l = absurd l
  means_first h a s c (S.Blocked why) e l = tt

  -- at any other, an instruction
  asked_instr : (h : Turning t thread label fb bs i ls cs o n) → (get_or t i 0 ≡ 0 → ⊥) → (get_or t i 0 ≡ 0x26 → ⊥) → Asked h
  asked_instr h z y =
      let w : Running t h.p h.m i h.c = at_instr h.stands z in
      let tag : label ≡ w.tag = h.here ∙ ap (first (ends_of h.p h.m)) w.code in
      let X : ℕ = length h.a.env in
      let full : X ≡ w.proc.locals = h.full w.proc w.found in
      let k = plain_act h.m w.instr w.here y w.allowed in
      let named : named_i (labelled h.p) X w.instr ≡ true = subst (λ X. named_i (labelled h.p) X w.instr ≡ true) (sym full) w.named in
      let args = act_args h.p X h.params w.instr k.0 k.1 named in
      let here = act_at t i X (labelled h.p) w.instr k.0 k.1 w.here.stands w.here.fits.1 named args.1 in
      record {
        act = k.0;
        j = act_end i w.instr;
        here = here;
        few = args.1;
        past = act_past t i X w.instr k.0 k.1 here;
        tag = w.tag;
        instr = w.instr;
        rest = w.rest;
        args = args.0;
        code = λ s.
            ap (λ c. code_of h.p thread h.m c h.a s) w.code
            ∙ code_instr h.p thread h.m w.tag w.instr w.rest h.a s k.1
            ∙ does (labelled h.p).procs thread w.tag h.m h.a.env w.tag w.rest s h.a.memory w.instr (act_end i w.instr)
            k.0 k.1
            ∙ ap (λ l. D.carried (labelled h.p).procs thread l h.m h.a.env w.tag w.instr w.rest s h.a.memory
            (decided h.a.env h.a.memory k.0 (act_end i w.instr))) (sym tag);
        means = means_first h w.tag w.instr w.rest (decided h.a.env h.a.memory k.0 (act_end i w.instr)) w.code
            (leads h.p h.m h.a.env h.a.memory w.tag w.rest w.instr k.0 (act_end i w.instr) X k.1 named w.calls);
      }

  -- one or the other
  pub asked : (h : Turning t thread label fb bs i ls cs o n) → (get_or t i 0 ≡ 0x26 → ⊥) → Asked h
  asked h y = by_test (eqb (get_or t i 0) 0) (λ e. asked_end h (eqb-true (get_or t i 0) 0 e)) (λ e. asked_instr h (eqb-false (get_or t i 0) 0 e) y)
