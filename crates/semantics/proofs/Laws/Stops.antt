-- Why a thread takes no step: it is finished, or its next instruction blocks, or one inside the atomic block that comes next.
use Rattle.std.specs.Prelude.{ℕ, zero, suc, ◌+◌, ◌≤◌, ◌<◌, ◌≡◌, refl, ◌↔◌, List, [], ◌∷◌, ◌++◌, true}
use Rattle.std.proofs.Common.{arith, sym, ap, ◌∙◌}
use Rattle.value.specs.Maybe.{is, nothing}
use Rattle.value.specs.Try.{has, lacks, or_lacks}
use Rattle.value.specs.Lists.{at}
use Rattle.value.specs.declared.Reason.{Reason}
use Rattle.value.specs.declared.Reason.TheVariants.{FinishedThread}
use Rattle.value.proofs.Laws.Tries.{has_inj, lacks_inj, lacking, chain_stops, or_lacks_has, or_lacks_stops}
use Rattle.value.proofs.Laws.Tests.{both_passed}
use Rattle.format.specs.Syntax.{Instr, assign, write, read, while, if, call, atomic, select, Block, end, step, Proc, Program}
use Rattle.format.specs.Rules.{allowed, allowed_i}
use Rattle.semantics.specs.Memory.{Env, Memory, Event}
use Rattle.semantics.specs.Step.{Frame, Stack, Moved, instr, frame}
use Rattle.semantics.specs.Threads.{State, size_i, size, to_end, first_instr, code, thread, thread_step}
use Rattle.semantics.proofs.Laws.Figure1.{context, Rule, rules_exactly, by_rule, figure_1}
use Rattle.semantics.proofs.Laws.Figure2.{Runs, stays, goes, inside, Allowed, Left, left, from_none, finished_blocks}
use Rattle.semantics.proofs.Laws.Reasons.{Blocks, blocks_exactly}

-- ---- where an atomic block stops

module _ (procs : List (Proc ℕ)) (t j : ℕ) where
  -- steps of figure 1 from the block's beginning, and then an instruction that blocks
  record Stuck (m : ℕ) (ρ : Env) (b : Block ℕ) (η : Memory) (r : Reason) : Type 0 where
    env : Env
    tag : ℕ
    instr : Instr ℕ
    code : Block ℕ
    memory : Memory
    new : List Event
    runs : Runs procs t j (context m ρ b ∷ []) η (context m env (step tag instr code) ∷ []) memory new
    blocks : Blocks procs t j m env tag code [] memory instr r

  -- an instruction is one at least
  one_at_least : (i : Instr ℕ) → 0 < size_i i
  one_at_least (assign x e) = omega arith
  one_at_least (write y o e) = omega arith
  one_at_least (read x y o) = omega arith
  one_at_least (while e b) = omega arith
  one_at_least (if e b c) = omega arith
  one_at_least (call m es) = omega arith
  one_at_least (atomic b) = omega arith
  one_at_least (select x y) = omega arith

  -- a block in one go that lacks comes to such an instruction
  to_stop : (n m : ℕ) (ρ : Env) (b : Block ℕ) (η : Memory) (evs : List Event) {r : Reason} → allowed (inside m) b ≡ true → size b ≤ n
      → to_end procs t j n (context m ρ b ∷ []) η evs ≡ lacks r → Stuck m ρ b η r
  to_stop zero m ρ end η evs k z h = lacking (sym h)
  to_stop zero m ρ (step a i c) η evs k z h = absurd (omega (arith, one_at_least i))
  to_stop (suc n) m ρ end η evs k z h = lacking (sym h)
  to_stop (suc n) m ρ (step a i c) η evs k z h =
      chain_stops (instr procs t j m ρ a i c [] η) _ h
      (λ e. record {
        env = ρ;
        tag = a;
        instr = i;
        code = c;
        memory = η;
        new = [];
        runs = stays;
        blocks = (blocks_exactly procs t j m ρ a c [] η i _).0 e;
      })
      (λ q e h.
      let ok = both_passed (allowed_i (inside m) i) (allowed (inside m) c) k in
      let rule : Rule procs t j m ρ a c [] η i q = (rules_exactly procs t j m ρ a c [] η i q).0 e in
      let l : Left m (size_i i + size c) q = left procs t j rule ok.0 ok.1 in
      on rule l (to_stop n m l.env l.code q.memory (evs ++ q.events) l.right (omega (arith, l.less)) (rw l.same at h)))
    where
      on : {q : Moved ℕ} {r : Reason} → Rule procs t j m ρ a c [] η i q → (l : Left m (size_i i + size c) q) → Stuck m l.env l.code q.memory r
          → Stuck m ρ (step a i c) η r
      on {q} rule l w = record {
        env = w.env;
        tag = w.tag;
        instr = w.instr;
        code = w.code;
        memory = w.memory;
        new = q.events ++ w.new;
        runs = goes (by_rule rule) (rw (← l.same) at w.runs);
        blocks = w.blocks;
      }

  -- and the other way
  in_stop : {s s' : Stack ℕ} {η η' : Memory} {new : List Event} → Runs procs t j s η s' η' new
      → (n m : ℕ) (ρ ρ' : Env) (b : Block ℕ) (a' : ℕ) (i' : Instr ℕ) (c' : Block ℕ) (evs : List Event) {r : Reason}
      → s ≡ context m ρ b ∷ [] → s' ≡ context m ρ' (step a' i' c') ∷ [] → size b ≤ n
      → allowed (inside m) b ≡ true → Blocks procs t j m ρ' a' c' [] η' i' r → to_end procs t j n (context m ρ b ∷ []) η evs ≡ lacks r
  in_stop (stays {η = η}) n m ρ ρ' b a' i' c' evs {r} e e' h k w =
      let same : context m ρ b ≡ context m ρ' (step a' i' c') = cc in
      let locals : ρ ≡ ρ' = ap (λ (f : Frame ℕ). f.env) same in
      let left : b ≡ step a' i' c' = ap (λ (f : Frame ℕ). f.code) same in
      rw (locals, left) (on n (rw left at h))
    where
      on : (n : ℕ) → size (step a' i' c') ≤ n → to_end procs t j n (context m ρ' (step a' i' c') ∷ []) η evs ≡ lacks r
      on zero h = absurd (omega (arith, one_at_least i'))
      on (suc n) h = rw ((blocks_exactly procs t j m ρ' a' c' [] η i' r).1 w)
  in_stop (goes {s' = s'} {η = η} {η' = η'} {r = q} {evs = new} f rest) n m ρ ρ' b a' i' c' evs {r} e e' h k w =
      by b (λ n ρ b evs e h k. in_stop rest n m ρ ρ' b a' i' c' evs e e' h k w) ((figure_1 procs t j m ρ b [] η q).1 (rw e at f)) h k
    where
      Later : Type 0
      Later = (n : ℕ) (ρ : Env) (b : Block ℕ) (evs : List Event) → q.stack ≡ context m ρ b ∷ [] → size b ≤ n
          → allowed (inside m) b ≡ true → to_end procs t j n (context m ρ b ∷ []) q.memory evs ≡ lacks r

      by : (b : Block ℕ) → Later → frame procs t j b m ρ [] η ≡ has q → size b ≤ n → allowed (inside m) b ≡ true
          → to_end procs t j n (context m ρ b ∷ []) η evs ≡ lacks r
      by end ih g h k =
          let none : q.stack ≡ [] = ap (λ (r : Moved ℕ). r.stack) (sym (has_inj g)) in
          let no : s' ≡ [] = from_none procs t j rest none in
          let z : ◌≡◌ {A = ℕ} 0 1 = cc in
          absurd (omega arith)
      by (step a i c) ih g h k =
          let ok = both_passed (allowed_i (inside m) i) (allowed (inside m) c) k in
          let l : Left m (size_i i + size c) q = left procs t j ((rules_exactly procs t j m ρ a c [] η i q).0 g) ok.0 ok.1 in
          on n l.env l.code l.same (omega (arith, l.less)) l.right
        where
          on : (n : ℕ) (ρ₁ : Env) (c₁ : Block ℕ) → q.stack ≡ context m ρ₁ c₁ ∷ [] → size c₁ < n → allowed (inside m) c₁ ≡ true
              → to_end procs t j n (context m ρ (step a i c) ∷ []) η evs ≡ lacks r
          on zero ρ₁ c₁ same less right = absurd (omega arith)
          on (suc n) ρ₁ c₁ same less right = rw (g, same) (ih n ρ₁ c₁ (evs ++ q.events) same (omega arith) right)

-- ---- a thread

-- thread t blocks, and why
pub data Stops (p : Program ℕ) (t : ℕ) (σ : State) : Reason → Type 0 where
  -- "4 finished thread chosen"
  finished : at σ.threads t ≡ is [] → Stops p t σ FinishedThread
  -- number 11 keeps out a thread that is not there
  no_thread : at σ.threads t ≡ nothing → Stops p t σ FinishedThread
  -- its next instruction blocks
  at_instr : {m : ℕ} {ρ : Env} {a : ℕ} {i : Instr ℕ} {c : Block ℕ} {s : Stack ℕ} {r : Reason} → at σ.threads t ≡ is (context m ρ (step a i c) ∷ s)
      → ((b : Block ℕ) → i ≡ atomic b → ⊥) → Blocks p.procs t a m ρ a c s σ.memory i r → Stops p t σ r
  -- the next instruction is an atomic block, and steps from its beginning come to one that blocks: the first inside that does
  in_atomic : {m : ℕ} {ρ ρ' : Env} {a a' : ℕ} {i : Instr ℕ} {b c c' : Block ℕ} {s : Stack ℕ} {η' : Memory} {evs : List Event} {r : Reason}
      → at σ.threads t ≡ is (context m ρ (step a (atomic b) c) ∷ s)
      → Runs p.procs t a (context m ρ b ∷ []) σ.memory (context m ρ' (step a' i c') ∷ []) η' evs
      → Blocks p.procs t a m ρ' a' c' [] η' i r → Stops p t σ r

-- A THREAD BLOCKS IN EXACTLY THESE WAYS, FOR THESE REASONS.
pub stops_exactly : (p : Program ℕ) (t : ℕ) (σ : State) (r : Reason) → Allowed σ t → (thread_step p t σ ≡ lacks r) ↔ Stops p t σ r
stops_exactly p t σ r ok = (so, of)
  where
    η : Memory
    η = σ.memory

    by : (m : ℕ) (ρ : Env) (c : Block ℕ) (s : Stack ℕ) → at σ.threads t ≡ is (context m ρ c ∷ s) → code p.procs t c m ρ s η ≡ lacks r
        → Stops p t σ r
    by m ρ end s e h = lacking (sym h)
    by m ρ (step a i c) s e h = on i e h
      where
        simply : (i : Instr ℕ) → at σ.threads t ≡ is (context m ρ (step a i c) ∷ s) → ((b : Block ℕ) → i ≡ atomic b → ⊥)
            → instr p.procs t a m ρ a i c s η ≡ lacks r → Stops p t σ r
        simply i e other h = at_instr e other ((blocks_exactly p.procs t a m ρ a c s η i r).0 h)

        on : (i : Instr ℕ) → at σ.threads t ≡ is (context m ρ (step a i c) ∷ s) → first_instr p.procs t m ρ a i c s η ≡ lacks r → Stops p t σ r
        on (assign x e) g h = simply (assign x e) g (λ b q. let z : ◌≡◌ {A = ℕ} 0 1 = cc in omega arith) h
        on (write y o e) g h = simply (write y o e) g (λ b q. let z : ◌≡◌ {A = ℕ} 0 1 = cc in omega arith) h
        on (read x y o) g h = simply (read x y o) g (λ b q. let z : ◌≡◌ {A = ℕ} 0 1 = cc in omega arith) h
        on (while e b) g h = simply (while e b) g (λ b q. let z : ◌≡◌ {A = ℕ} 0 1 = cc in omega arith) h
        on (if e b d) g h = simply (if e b d) g (λ b q. let z : ◌≡◌ {A = ℕ} 0 1 = cc in omega arith) h
        on (call n es) g h = simply (call n es) g (λ b q. let z : ◌≡◌ {A = ℕ} 0 1 = cc in omega arith) h
        on (atomic b) g h =
            chain_stops (to_end p.procs t a (size b) (context m ρ b ∷ []) η []) _ h
            (λ n. let w = to_stop p.procs t a (size b) m ρ b η [] (ok m ρ a b c s g) (omega arith) n in in_atomic g w.runs w.blocks)
            (λ q e f. lacking (sym f))
        on (select x y) g h = simply (select x y) g (λ b q. let z : ◌≡◌ {A = ℕ} 0 1 = cc in omega arith) h

    so : thread_step p t σ ≡ lacks r → Stops p t σ r
    so h =
        chain_stops (or_lacks FinishedThread (at σ.threads t)) _ h
        (λ n. let k = or_lacks_stops FinishedThread (at σ.threads t) n in rw (← k.1) (no_thread k.0))
        (λ s e h. chain_stops (thread p.procs t s η) _ h (λ n. on s (or_lacks_has _ _ e) n) (λ q f g. lacking (sym g)))
      where
        on : (s : Stack ℕ) → at σ.threads t ≡ is s → thread p.procs t s η ≡ lacks r → Stops p t σ r
        on [] e h = rw (← lacks_inj (sym (finished_blocks p.procs t η) ∙ h)) (finished e)
        on (f ∷ s) e h = by f.proc f.env f.code s e h

    of : {r : Reason} → Stops p t σ r → thread_step p t σ ≡ lacks r
    of (finished e) = rw e
    of (no_thread e) = rw e
    of {r} (at_instr {m = m} {ρ = ρ} {a = a} {i = i} {c = c} {s = s} e other b) =
        rw (e, on i other ((blocks_exactly p.procs t a m ρ a c s η i r).1 b))
      where
        on : (i : Instr ℕ) → ((b : Block ℕ) → i ≡ atomic b → ⊥) → instr p.procs t a m ρ a i c s η ≡ lacks r
            → first_instr p.procs t m ρ a i c s η ≡ lacks r
        on (assign x e) other q = q
        on (write y o e) other q = q
        on (read x y o) other q = q
        on (while e b) other q = q
        on (if e b d) other q = q
        on (call n es) other q = q
        on (atomic b) other q = absurd (other b refl)
        on (select x y) other q = q
    of (in_atomic {m = m} {ρ = ρ} {ρ' = ρ'} {a = a} {a' = a'} {i = i} {b = b} {c = c} {c' = c'} {s = s} e runs w) =
        rw (e, in_stop p.procs t a runs (size b) m ρ ρ' b a' i c' [] refl refl (omega arith) (ok m ρ a b c s e) w)
