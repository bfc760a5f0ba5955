-- The step that is decided for an instruction inside an atomic block is what the instruction does.
use Rattle.std.specs.Prelude.{ℕ, ◌+◌, ◌<◌, ◌≡◌, refl, List, [], Bool, true, false, length, ltb}
use Rattle.std.proofs.Common.{arith, sym, ap, subst, ◌∙◌, ltb-true}
use Rattle.value.specs.Maybe.{is, both}
use Rattle.value.specs.Try.{Try, has, lacks, ◌⟫◌}
use Rattle.value.specs.declared.Reason.{Reason}
use Rattle.value.proofs.Laws.Maybes.{is_inj}
use Rattle.value.proofs.Laws.Tests.{never, both_passed}
use Rattle.format.specs.Syntax.{Expr, local, Instr, assign, write, read, while, if, call, atomic, select, Block, Program}
use Rattle.format.specs.Encode.{expr}
use Rattle.format.specs.Rules.{allowed, allowed_i, named, named_i}
use Rattle.format.specs.Rules as Rules
use Rattle.format.proofs.Laws.Stands.{first}
use Rattle.format.proofs.Laws.Grammar.{InstrAt, BlockAt, IfAt, if_here}
use Rattle.decide.specs.declared.step.Step.{Step}
use Rattle.decide.specs.declared.step.Step.TheVariants as S
use Rattle.semantics.specs.Memory.{eval, index, cell}
use Rattle.value.specs.Values.{number, place, truth}
use Rattle.decide.specs.Decided.{Act, assigns, writes, reads, tests, act_of, act_end, args_of, decided, or_blocked}
use Rattle.semantics.specs.Threads.{Atomic}
use Rattle.atomic.specs.Acts.{within, act_i, act}
use Rattle.atomic.specs.Doing.{carried, StepFits}
use Rattle.decide.specs.Laws.Deciding.{cell_size_lem}

-- what holds of a blocked step and of each step that a chain can come to, holds of the step that it comes to
pub through : {A : Type 0} (P : Step → Type 0) (m : Try A) (f : A → Try Step) → ((r : Reason) → m ≡ lacks r → P (S.Blocked r))
    → ((x : A) → m ≡ has x → P (or_blocked (f x))) → P (or_blocked (m ⟫ f))
through P (has x) f none some = some x refl
through P (lacks r) f none some = none r refl

-- ---- inside an atomic block

-- the instruction of a step that is carried out ends at j
abbrev pub EndsAt : Step → ℕ → Type 0
EndsAt (S.Assign x v k) j = k ≡ j
EndsAt (S.Read x l i v k) j = k ≡ j
EndsAt (S.Write l i c v k) j = k ≡ j
EndsAt S.Return j = Unit {0}
EndsAt (S.Test q k) j = Unit {0}
EndsAt (S.Call m k) j = Unit {0}
EndsAt (S.Select c u k) j = Unit {0}
EndsAt (S.Blocked r) j = Unit {0}

-- a step that is carried out is the instruction
pub record Simple (thread label j : ℕ) (s : Instr ℕ) (a : Atomic) (u : Step) : Type 0 where
  pub fits : StepFits a u
  pub same : act_i thread label s a ≡ carried thread label u a
  pub ends : EndsAt u j

-- a test that comes out as q and ends at k is that of an if, whose blocks follow
pub record Branching (t : List ℕ) (thread label i d j : ℕ) (p : Program ℕ) (X m : ℕ) (s : Instr ℕ) (a : Atomic) (q : Bool) (k : ℕ) : Type 0 where
  pub past : i < k
  pub yes : Block ℕ
  pub no : Block ℕ
  pub l : ℕ
  pub first : BlockAt t k d yes l
  pub second : BlockAt t l d no j
  pub named : (named p X yes ≡ true) × (named p X no ≡ true)
  pub allowed : (allowed (within m) yes ≡ true) × (allowed (within m) no ≡ true)
  pub same : act_i thread label s a ≡ elim q [ true ↦ act thread label yes a | false ↦ act thread label no a ]

module _ (t : List ℕ) (thread label i d j : ℕ) (p : Program ℕ) (X m : ℕ) (s : Instr ℕ) (a : Atomic) where
  -- each step is one or the other
  abbrev pub Fitting : Step → Type 0
  Fitting (S.Test q k) = Branching t thread label i d j p X m s a q k
  Fitting (S.Assign x v k) = Simple thread label j s a (S.Assign x v k)
  Fitting (S.Read x l i v k) = Simple thread label j s a (S.Read x l i v k)
  Fitting (S.Write l i c v k) = Simple thread label j s a (S.Write l i c v k)
  Fitting S.Return = Simple thread label j s a S.Return
  Fitting (S.Call n k) = Simple thread label j s a (S.Call n k)
  Fitting (S.Select c u k) = Simple thread label j s a (S.Select c u k)
  Fitting (S.Blocked r) = Simple thread label j s a (S.Blocked r)

-- the blocks of an if
pub if_blocks : {t : List ℕ} {i d j : ℕ} {e : Expr} {b c : Block ℕ} → InstrAt t i d (if e b c) j
    → (l : ℕ) × BlockAt t (i + 1 + length (expr e)) d b l × BlockAt t l d c j
if_blocks {t} {i} {d} {j} {e} {b} {c} h =
    let w : IfAt t i d (if e b c) j = if_here h (first h.stands) in
    let test : w.e ≡ e = cc w.is in
    let yes : w.b ≡ b = cc w.is in
    let no : w.c ≡ c = cc w.is in
    let from : w.k ≡ i + 1 + length (expr e) = w.test.stands.ends ∙ ap (λ x. i + 1 + length (expr x)) test in
    (w.l, rw (from, yes) at w.first, rw no at w.second)

module _ {t : List ℕ} (thread label : ℕ) {i d j : ℕ} (a : Atomic) (p : Program ℕ) (m : ℕ) where
  -- of an instruction that may stand there, whose names mean something, the step that is decided
  pub fitting : (s : Instr ℕ) (k : Act) → act_of s ≡ is k → InstrAt t i d s j → named_i p (length a.env) s ≡ true → allowed_i (within m) s ≡ true
      → Fitting t thread label i d j p (length a.env) m s a (decided a.env a.memory k (act_end i s))
  fitting (assign x e) k f h n w =
      let P : Step → Type 0 = Fitting t thread label i d j p (length a.env) m (assign x e) a in
      subst (λ k. P (decided a.env a.memory k (act_end {A = ℕ} i (assign x e)))) (is_inj f)
      (through P (eval a.env e) _
      (λ no q. record { fits = tt; same = rw q; ends = tt })
      (λ v q. record {
        fits = ltb-true x (length a.env) (both_passed (ltb x (length a.env)) _ n).0;
        same = rw q;
        ends = sym h.stands.ends;
      }))
  fitting (write y o e) k f h n w =
      let P : Step → Type 0 = Fitting t thread label i d j p (length a.env) m (write y o e) a in
      subst (λ k. P (decided a.env a.memory k (act_end {A = ℕ} i (write y o e)))) (is_inj f)
      (through P (eval a.env e) _ (λ no q. record { fits = tt; same = rw q; ends = tt }) (λ v q.
      through P (eval a.env o ⟫ number) _ (λ no r. record { fits = tt; same = rw (q, r); ends = tt }) (λ g r.
      through P (eval a.env (local y) ⟫ place) _ (λ no u. record { fits = tt; same = rw (q, r, u); ends = tt }) (λ l u.
      through P (index g) _ (λ no v'. record { fits = tt; same = rw (q, r, u, v'); ends = tt }) (λ x v'.
      through P (cell a.memory l x) _ (λ no w. record { fits = tt; same = rw (q, r, u, v', w); ends = tt }) (λ z w.
      record { fits = record { number = refl; size = cell_size_lem a.memory l x w }; same = rw (q, r, u, v', w); ends = sym h.stands.ends }))))))
  fitting (read x y o) k f h n w =
      let P : Step → Type 0 = Fitting t thread label i d j p (length a.env) m (read x y o) a in
      subst (λ k. P (decided a.env a.memory k (act_end {A = ℕ} i (read x y o)))) (is_inj f)
      (through P (eval a.env o ⟫ number) _ (λ no r. record { fits = tt; same = rw r; ends = tt }) (λ g r.
      through P (eval a.env (local y) ⟫ place) _ (λ no u. record { fits = tt; same = rw (r, u); ends = tt }) (λ l u.
      through P (index g) _ (λ no v'. record { fits = tt; same = rw (r, u, v'); ends = tt }) (λ z v'.
      through P (cell a.memory l z) _ (λ no w. record { fits = tt; same = rw (r, u, v', w); ends = tt }) (λ v w.
      record {
        fits = ltb-true x (length a.env) (both_passed (ltb x (length a.env)) _ n).0;
        same = rw (r, u, v', w);
        ends = sym h.stands.ends;
      })))))
  fitting (if e b c) k f h n w =
      let P : Step → Type 0 = Fitting t thread label i d j p (length a.env) m (if e b c) a in
      let blocks = if_blocks h in
      let names =
      both_passed (named p (length a.env) b) (named p (length a.env) c)
      (both_passed (Rules.ex p (length a.env) e) (both (named p (length a.env) b) (named p (length a.env) c)) n).1
      in
      let may = both_passed (allowed (within m) b) (allowed (within m) c) w in
      subst (λ k. P (decided a.env a.memory k (act_end i (if e b c)))) (is_inj f)
      (through P (eval a.env e ⟫ truth) _ (λ no q. record { fits = tt; same = rw q; ends = tt }) (λ v q.
      record {
        past = omega arith;
        yes = b;
        no = c;
        l = blocks.0;
        first = blocks.1;
        second = blocks.2;
        named = names;
        allowed = may;
        same = rw q;
      }))
  fitting (while e b) k f h n w = absurd (never w)
  fitting (call q es) k f h n w = absurd (never w)
  fitting (atomic b) k f h n w = absurd (never w)
  fitting (select x y) k f h n w = absurd (never w)

-- an instruction that may stand there is an act without arguments
pub inner_act : (m : ℕ) (s : Instr ℕ) → allowed_i (within m) s ≡ true → (k : Act) × (act_of s ≡ is k) × (args_of k ≡ [])
inner_act m (assign x e) w = (assigns x e, refl, refl)
inner_act m (write y o e) w = (writes y o e, refl, refl)
inner_act m (read x y o) w = (reads x y o, refl, refl)
inner_act m (if e b c) w = (tests e, refl, refl)
inner_act m (while e b) w = absurd (never w)
inner_act m (call q es) w = absurd (never w)
inner_act m (atomic b) w = absurd (never w)
inner_act m (select x y) w = absurd (never w)
