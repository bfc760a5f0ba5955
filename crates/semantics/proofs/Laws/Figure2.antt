-- Report RR-2017-03, figure 2: its two rules as the report writes them, and that a thread takes exactly these steps.
use Rattle.std.specs.Prelude.{ℕ, zero, suc, ◌+◌, ◌≤◌, ◌<◌, ◌≡◌, refl, ◌↔◌, List, [], ◌∷◌, ◌++◌, true, set}
use Rattle.std.proofs.Common.{arith, sym, ap, ◌∙◌, append_assoc, append-nil}
use Rattle.value.specs.Maybe.{is}
use Rattle.value.specs.Try.{has, lacks, or_lacks}
use Rattle.value.specs.declared.Reason.TheVariants.{FinishedThread}
use Rattle.value.specs.Lists.{at}
use Rattle.value.proofs.Laws.Maybes.{is_inj, missing}
use Rattle.value.proofs.Laws.Tries.{has_inj, lacking, chain_has, or_lacks_has}
use Rattle.value.proofs.Laws.Tests.{Decides, never, both_passed}
use Rattle.value.proofs.Laws.Lists.{Each}
use Rattle.format.specs.Syntax.{Instr, assign, write, read, while, if, call, atomic, select, Block, end, step, ◌⊕◌, Proc, Program, concurrent}
use Rattle.format.specs.Labels.{ends_of}
use Rattle.format.specs.Rules.{Here, allowed, allowed_i}
use Rattle.format.proofs.Laws.Joined.{allowed_append}
use Rattle.semantics.specs.Memory.{Env, Memory, Event}
use Rattle.semantics.specs.Step.{Frame, Stack, Moved, entered, instr, frame}
use Rattle.semantics.specs.Threads.{State, starts, start, done, size_i, size, Atomic, to_end}
use Rattle.semantics.specs.Threads.{first_instr, code, thread, Step, thread_step, label_of}
use Rattle.semantics.proofs.Laws.Figure1.{Rule, assigns, writes, reads, while_true, while_false, if_true, if_false, calls, rules_exactly}
use Rattle.semantics.proofs.Laws.Figure1.{context, Figure1, by_rule, returns, figure_1}

-- ---- the two rules

-- the report's P ⊢ s, η →* s', η', at label j, with what is read and written on the way
pub data Runs (procs : List (Proc ℕ)) (t j : ℕ) : Stack ℕ → Memory → Stack ℕ → Memory → List Event → Type 0 where
  stays : {s : Stack ℕ} {η : Memory} → Runs procs t j s η s η []
  goes : {s s' : Stack ℕ} {η η' : Memory} {r : Moved ℕ} {evs : List Event} → Figure1 procs t j s η r → Runs procs t j r.stack r.memory s' η' evs
      → Runs procs t j s η s' η' (r.events ++ evs)

-- the report's stacks[t ↦ s'], η'
abbrev pub put : State → ℕ → Moved ℕ → Step
put σ t r = record { state = record { threads = set σ.threads t r.stack; memory = r.memory }; events = r.events }

-- P ⊢ stacks, η → stacks', η' by thread t
pub data Figure2 (p : Program ℕ) (t : ℕ) (σ : State) : Step → Type 0 where
  -- [seq] "if P ⊢ stacks(t), η → s', η' and 0 ≤ t < #tid"; an event has the label where the thread is
  seq : {s : Stack ℕ} {r : Moved ℕ} → at σ.threads t ≡ is s → Figure1 p.procs t (label_of p s) s σ.memory r → Figure2 p t σ (put σ t r)
  -- [atomic] "if P ⊢ [(m, ρ, b)], η →* [(m, ρ', [])], η' where stacks(t) = (m, ρ, (atomic(b); c)) · s"; at the block's label
  whole : {m : ℕ} {ρ ρ' : Env} {a : ℕ} {b c : Block ℕ} {s : Stack ℕ} {η' : Memory} {evs : List Event}
      → at σ.threads t ≡ is (context m ρ (step a (atomic b) c) ∷ s)
      → Runs p.procs t a (context m ρ b ∷ []) σ.memory (context m ρ' end ∷ []) η' evs
      → Figure2 p t σ (put σ t (record { stack = context m ρ' c ∷ s; memory = η'; events = evs }))

-- rule 4 of what stands in an atomic block of procedure m: "within it no while, call or atomic"
abbrev pub inside : ℕ → Here
inside m = record { kind = concurrent; proc = m; inside = true }

-- if thread t's next instruction is an atomic block, rule 4 holds in it
abbrev pub Allowed : State → ℕ → Type 0
Allowed σ t =
    (m : ℕ) (ρ : Env) (a : ℕ) (b c : Block ℕ) (s : Stack ℕ) → at σ.threads t ≡ is (context m ρ (step a (atomic b) c) ∷ s)
    → allowed (inside m) b ≡ true

-- ---- inside an atomic block

-- the instructions of one block after another
size_join : (b c : Block ℕ) → size (b ⊕ c) ≡ size b + size c
size_join end c = omega arith
size_join (step l i b) c = omega (arith, size_join b c)

-- a step inside an atomic block leaves one frame, with less to do
pub record Left (m n : ℕ) (r : Moved ℕ) : Type 0 where
  pub env : Env
  pub code : Block ℕ
  pub same : r.stack ≡ context m env code ∷ []
  pub less : size code < n
  pub right : allowed (inside m) code ≡ true

module _ (procs : List (Proc ℕ)) (t j : ℕ) where
  -- it does
  pub left : {m : ℕ} {ρ : Env} {a : ℕ} {c : Block ℕ} {η : Memory} {i : Instr ℕ} {r : Moved ℕ} → Rule procs t j m ρ a c [] η i r
      → allowed_i (inside m) i ≡ true → allowed (inside m) c ≡ true → Left m (size_i i + size c) r
  left (assigns e) h k = record { env = _; code = _; same = refl; less = omega arith; right = k }
  left (writes v o y n l) h k = record { env = _; code = _; same = refl; less = omega arith; right = k }
  left (reads o y v) h k = record { env = _; code = _; same = refl; less = omega arith; right = k }
  left (while_true e) h k = absurd (never h)
  left (while_false e) h k = absurd (never h)
  left {m} {c = c} (if_true {b = b} {d = d} e) h k =
      let two = both_passed (allowed (inside m) b) (allowed (inside m) d) h in
      record { env = _; code = b ⊕ c; same = refl; less = omega (arith, size_join b c); right = allowed_append (inside m) b c two.0 k }
  left {m} {c = c} (if_false {b = b} {d = d} e) h k =
      let two = both_passed (allowed (inside m) b) (allowed (inside m) d) h in
      record { env = _; code = d ⊕ c; same = refl; less = omega (arith, size_join d c); right = allowed_append (inside m) d c two.1 k }
  left (calls p h free) g k = absurd (never g)

  -- what the block in one go leaves, after some events
  record Ended (m : ℕ) (ρ : Env) (b : Block ℕ) (η : Memory) (evs : List Event) (r : Atomic) : Type 0 where
    new : List Event
    runs : Runs procs t j (context m ρ b ∷ []) η (context m r.env end ∷ []) r.memory new
    events : r.events ≡ evs ++ new

  -- a block in one go takes steps of figure 1
  to_end_lem : (n m : ℕ) (ρ : Env) (b : Block ℕ) (η : Memory) (evs : List Event) (r : Atomic) → allowed (inside m) b ≡ true
      → to_end procs t j n (context m ρ b ∷ []) η evs ≡ has r → Ended m ρ b η evs r
  to_end_lem zero m ρ end η evs r k h = rw (← has_inj h) (record { new = []; runs = stays; events = sym (append-nil evs) })
  to_end_lem zero m ρ (step a i c) η evs r k h = lacking h
  to_end_lem (suc n) m ρ end η evs r k h = rw (← has_inj h) (record { new = []; runs = stays; events = sym (append-nil evs) })
  to_end_lem (suc n) m ρ (step a i c) η evs r k h =
      let q = chain_has (instr procs t j m ρ a i c [] η) _ h in
      let ok = both_passed (allowed_i (inside m) i) (allowed (inside m) c) k in
      let rule : Rule procs t j m ρ a c [] η i q.0 = (rules_exactly procs t j m ρ a c [] η i q.0).0 q.1 in
      let l : Left m (size_i i + size c) q.0 = left rule ok.0 ok.1 in
      let rest : Ended m l.env l.code q.0.memory (evs ++ q.0.events) r
      = to_end_lem n m l.env l.code q.0.memory (evs ++ q.0.events) r l.right (rw l.same at q.2) in
      record {
        new = q.0.events ++ rest.new;
        runs = goes (by_rule rule) (rw (← l.same) at rest.runs);
        events = rest.events ∙ append_assoc evs q.0.events rest.new;
      }

  -- no step begins without a frame
  pub from_none : {s s' : Stack ℕ} {η η' : Memory} {evs : List Event} → Runs procs t j s η s' η' evs → s ≡ [] → s' ≡ []
  from_none stays e = e
  from_none (goes (by_rule h) rest) e = let z : ◌≡◌ {A = ℕ} 0 1 = cc in absurd (omega arith)
  from_none (goes returns rest) e = let z : ◌≡◌ {A = ℕ} 0 1 = cc in absurd (omega arith)

  -- at its end
  at_end : (n m : ℕ) (ρ : Env) (η : Memory) (evs : List Event)
      → to_end procs t j n (context m ρ end ∷ []) η evs ≡ has (record { env = ρ; memory = η; events = evs })
  at_end zero m ρ η evs = refl
  at_end (suc n) m ρ η evs = refl

  -- steps of figure 1 to the end of a block are the block in one go
  in_one : {s s' : Stack ℕ} {η η' : Memory} {new : List Event} → Runs procs t j s η s' η' new
      → (n m : ℕ) (ρ ρ' : Env) (b : Block ℕ) (evs : List Event) → s ≡ context m ρ b ∷ [] → s' ≡ context m ρ' end ∷ [] → size b ≤ n
      → allowed (inside m) b ≡ true → to_end procs t j n (context m ρ b ∷ []) η evs ≡ has (record { env = ρ'; memory = η'; events = evs ++ new })
  in_one (stays {η = η}) n m ρ ρ' b evs e e' h k =
      let same : context m ρ b ≡ context m ρ' end = cc in
      let locals : ρ ≡ ρ' = ap (λ (f : Frame ℕ). f.env) same in
      let done : b ≡ end = ap (λ (f : Frame ℕ). f.code) same in
      rw (locals, done, append-nil evs) (at_end n m ρ' η evs)
  in_one (goes {s' = s'} {η = η} {η' = η'} {r = r} {evs = new} f rest) n m ρ ρ' b evs e e' h k =
      by b (λ n m ρ ρ' b evs e e' h k. in_one rest n m ρ ρ' b evs e e' h k) ((figure_1 procs t j m ρ b [] η r).1 (rw e at f)) h k
    where
      Later : Type 0
      Later = (n m : ℕ) (ρ ρ' : Env) (b : Block ℕ) (evs : List Event) → r.stack ≡ context m ρ b ∷ [] → s' ≡ context m ρ' end ∷ [] → size b ≤ n
          → allowed (inside m) b ≡ true
          → to_end procs t j n (context m ρ b ∷ []) r.memory evs ≡ has (record { env = ρ'; memory = η'; events = evs ++ new })

      by : (b : Block ℕ) → Later → frame procs t j b m ρ [] η ≡ has r → size b ≤ n → allowed (inside m) b ≡ true
          → to_end procs t j n (context m ρ b ∷ []) η evs ≡ has (record { env = ρ'; memory = η'; events = evs ++ (r.events ++ new) })
      by end ih g h k =
          let none : r.stack ≡ [] = ap (λ (r : Moved ℕ). r.stack) (sym (has_inj g)) in
          let no : s' ≡ [] = from_none rest none in
          let z : ◌≡◌ {A = ℕ} 0 1 = cc in
          absurd (omega arith)
      by (step a i c) ih g h k =
          let ok = both_passed (allowed_i (inside m) i) (allowed (inside m) c) k in
          let l : Left m (size_i i + size c) r = left ((rules_exactly procs t j m ρ a c [] η i r).0 g) ok.0 ok.1 in
          on n l.env l.code l.same (omega (arith, l.less)) l.right
        where
          on : (n : ℕ) (ρ₁ : Env) (c₁ : Block ℕ) → r.stack ≡ context m ρ₁ c₁ ∷ [] → size c₁ < n → allowed (inside m) c₁ ≡ true
              → to_end procs t j n (context m ρ (step a i c) ∷ []) η evs ≡ has (record { env = ρ'; memory = η'; events = evs ++ (r.events ++ new) })
          on zero ρ₁ c₁ same less right = absurd (omega arith)
          on (suc n) ρ₁ c₁ same less right =
              rw (g, same, ← append_assoc evs r.events new) (ih n m ρ₁ ρ' c₁ (evs ++ r.events) same e' (omega arith) right)

module _ (procs : List (Proc ℕ)) (t : ℕ) where
  -- "A finished thread .. blocks"
  pub finished_blocks : (η : Memory) → thread procs t [] η ≡ lacks FinishedThread
  finished_blocks η = refl

  -- ---- a thread's first instruction

  -- other than an atomic block, it is figure 1's
  first_of : {m : ℕ} {ρ : Env} {a : ℕ} {c : Block ℕ} {s : Stack ℕ} {η : Memory} (i : Instr ℕ) {r : Moved ℕ} → Rule procs t a m ρ a c s η i r
      → first_instr procs t m ρ a i c s η ≡ has r
  first_of (assign x e) h = (rules_exactly procs t _ _ _ _ _ _ _ _ _).1 h
  first_of (write y o e) h = (rules_exactly procs t _ _ _ _ _ _ _ _ _).1 h
  first_of (read x y o) h = (rules_exactly procs t _ _ _ _ _ _ _ _ _).1 h
  first_of (while e b) h = (rules_exactly procs t _ _ _ _ _ _ _ _ _).1 h
  first_of (if e b d) h = (rules_exactly procs t _ _ _ _ _ _ _ _ _).1 h
  first_of (call n es) h = (rules_exactly procs t _ _ _ _ _ _ _ _ _).1 h
  first_of (atomic b) h = lacking ((rules_exactly procs t _ _ _ _ _ _ _ _ _).1 h)
  first_of (select x y) h = lacking ((rules_exactly procs t _ _ _ _ _ _ _ _ _).1 h)

-- a step of figure 1, at the label where the thread is, is the thread's step
thread_of : (p : Program ℕ) (t : ℕ) {s : Stack ℕ} {η : Memory} {r : Moved ℕ} → Figure1 p.procs t (label_of p s) s η r → thread p.procs t s η ≡ has r
thread_of p t (by_rule {i = i} h) = first_of p.procs t i h
thread_of p t returns = refl

-- FIGURE 2: A THREAD TAKES A STEP EXACTLY IF A RULE OF THE REPORT DOES, AND TO WHERE THE RULE SAYS. A finished thread has none.
pub figure_2 : (p : Program ℕ) (t : ℕ) (σ : State) (r : Step) → Allowed σ t → (thread_step p t σ ≡ has r) ↔ Figure2 p t σ r
figure_2 p t σ r ok = (so, of ok)
  where
    η : Memory
    η = σ.memory

    by : (m : ℕ) (ρ : Env) (c : Block ℕ) (s : Stack ℕ) (q : Moved ℕ) → at σ.threads t ≡ is (context m ρ c ∷ s) → code p.procs t c m ρ s η ≡ has q
        → Figure2 p t σ (put σ t q)
    by m ρ end s q e h = rw (← has_inj h) (seq e returns)
    by m ρ (step a i c) s q e h = on i e h
      where
        simply : (i : Instr ℕ) → at σ.threads t ≡ is (context m ρ (step a i c) ∷ s) → instr p.procs t a m ρ a i c s η ≡ has q
            → Figure2 p t σ (put σ t q)
        simply i e h = seq e (by_rule ((rules_exactly p.procs t a m ρ a c s η i q).0 h))

        on : (i : Instr ℕ) → at σ.threads t ≡ is (context m ρ (step a i c) ∷ s) → first_instr p.procs t m ρ a i c s η ≡ has q
            → Figure2 p t σ (put σ t q)
        on (assign x e) g h = simply (assign x e) g h
        on (write y o e) g h = simply (write y o e) g h
        on (read x y o) g h = simply (read x y o) g h
        on (while e b) g h = simply (while e b) g h
        on (if e b d) g h = simply (if e b d) g h
        on (call n es) g h = simply (call n es) g h
        on (atomic b) g h =
            let z = chain_has (to_end p.procs t a (size b) (context m ρ b ∷ []) η []) _ h in
            let w = to_end_lem p.procs t a (size b) m ρ b η [] z.0 (ok m ρ a b c s g) z.1 in
            rw (← has_inj z.2, w.events) (whole g w.runs)
        on (select x y) g h = lacking h

    so : thread_step p t σ ≡ has r → Figure2 p t σ r
    so h =
        let s = chain_has (or_lacks FinishedThread (at σ.threads t)) _ h in
        let q = chain_has (thread p.procs t s.0 η) _ s.2 in
        rw (← has_inj q.2) (on s.0 (or_lacks_has _ _ s.1) q.0 q.1)
      where
        on : (s : Stack ℕ) → at σ.threads t ≡ is s → (q : Moved ℕ) → thread p.procs t s η ≡ has q → Figure2 p t σ (put σ t q)
        on [] e q h = lacking (sym (finished_blocks p.procs t η) ∙ h)
        on (f ∷ s) e q h = by f.proc f.env f.code s q e h

    of : {r : Step} → Allowed σ t → Figure2 p t σ r → thread_step p t σ ≡ has r
    of ok (seq e f) = rw (e, thread_of p t f)
    of ok (whole {m = m} {ρ = ρ} {ρ' = ρ'} {a = a} {b = b} {c = c} {s = s} e runs) =
        rw (e, in_one p.procs t a runs (size b) m ρ ρ' b [] refl refl (omega arith) (ok m ρ a b c s e))

-- ---- where a run begins, and where a thread is

-- the report's initial context of thread t: [(mains(t), ∅, body(mains(t)))]
pub initial : (p : Program ℕ) (t : ℕ) {m : ℕ} {q : Proc ℕ} → at p.mains t ≡ is m → at p.procs m ≡ is q
    → at (start p).threads t ≡ is (entered m q [] ∷ [])
initial p t {m} {q} e f = on p.mains t e
  where
    on : (ms : List ℕ) (t : ℕ) → at ms t ≡ is m → at (starts p.procs ms) t ≡ is (entered m q [] ∷ [])
    on [] t e = missing e
    on (n ∷ ms) zero e = rw (is_inj e, f)
    on (n ∷ ms) (suc t) e = on ms t e

-- a run is finished exactly if each thread is
pub done? : (ts : List (Stack ℕ)) → Decides (done ts) (Each (λ s. s ≡ []) ts)
done? [] = record { so = λ e. tt; of = λ h. refl }
done? ([] ∷ ts) = record { so = λ e. (refl, (done? ts).so e); of = λ h. (done? ts).of h.1 }
done? ((f ∷ s) ∷ ts) = record { so = λ e. absurd (never e); of = λ h. let z : ◌≡◌ {A = ℕ} 0 1 = cc in absurd (omega arith) }

-- a thread is at the label of its next instruction, or at the end label of its procedure; "0 is a finished thread"
pub label_of_lem : (p : Program ℕ) (m l : ℕ) (ρ : Env) (i : Instr ℕ) (c : Block ℕ) (s : Stack ℕ)
    → (label_of p (context m ρ (step l i c) ∷ s) ≡ l) × (label_of p (context m ρ end ∷ s) ≡ ends_of p m) × (label_of p [] ≡ 0)
label_of_lem p m l ρ i c s = (refl, refl, refl)
