-- What holds of the code that remains in a frame of the program, at any time: the copy has a procedure for each of its
-- labels (Coded), its names mean something (rule 5), its instructions may stand there (rule 4), and each variable that it
-- mentions for its value will be set (rule 8).
use Rattle.std.specs.Prelude.{ℕ, ◌≤◌, ◌<◌, ◌≡◌, refl, List, [], ◌∷◌, Bool, true, false, length, ltb, eqb}
use Rattle.std.proofs.Math.Decide.{ℕ_discrete}
use Rattle.std.proofs.Common.{sym, ◌∙◌, get_or-set_same, get_or-set_other, eqb-true}
use Rattle.value.specs.Maybe.{is, nothing, ◌>>=◌, both, either, pick}
use Rattle.value.specs.Lists.{at}
use Rattle.value.specs.declared.Value.{Value}
use Rattle.value.proofs.Laws.Maybes.{when_is, is_inj, bind_is}
use Rattle.value.proofs.Laws.Tests.{both_passed, either_passed}
use Rattle.format.specs.Syntax.{Expr, Instr, assign, write, read, while, if, call, atomic, select}
use Rattle.format.specs.Syntax.{Block, end, step, ◌⊕◌, Proc, Program, Plain, concurrent}
use Rattle.format.specs.Encode.{block}
use Rattle.format.specs.Labels.{first}
use Rattle.format.specs.Rules.{Here, allowed, allowed_i, named, named_i, with, known, after_i, after}
use Rattle.format.specs.Rules as Rules
use Rattle.format.proofs.Laws.Calls.{Reaches}
use Rattle.format.proofs.Laws.Procs.{body_in}
use Rattle.format.proofs.Laws.Sets.{◌⊆◌, after_more, after_grows, after_append}
use Rattle.format.proofs.Laws.Joined.{first_append, named_append, allowed_append}
use Rattle.translation.specs.Code.{code, returns}
use Rattle.translation.specs.Translate.{simulating}
use Rattle.semantics.specs.Memory.{Env, lookup, bound}
use Rattle.semantics.specs.Step.{Stack, runs}
use Rattle.translation.proofs.Laws.Placing.Apart.{Along}
use Rattle.agreement.proofs.Laws.Reps.{Setting}

-- ---- the copy's procedures for code

module _ (S : Setting) (procs : List (Proc Plain)) (begin : ℕ → ℕ) (m : ℕ) where
  abbrev mutual
    -- procedures for the labels inside an instruction l that label k follows
    pub CodedI : Instr ℕ → ℕ → ℕ → Type 0
    CodedI (assign x e) l k = Unit {0}
    CodedI (write y o e) l k = Unit {0}
    CodedI (read x y o) l k = Unit {0}
    CodedI (while e b) l k = Coded b l
    CodedI (if e b d) l k = Coded b k × Coded d k
    CodedI (call q es) l k = Unit {0}
    CodedI (atomic b) l k = Unit {0}
    CodedI (select a b) l k = Unit {0}

    -- procedure l simulates label l, for each label l of a block that label k follows
    pub Coded : Block ℕ → ℕ → Type 0
    Coded end k = Unit {0}
    Coded (step l i b) k = (at procs l ≡ is (simulating (S.L m) (code S.G m (S.L m) begin l i (first k b)))) × CodedI i l (first k b) × Coded b k

  -- one block after another
  pub coded_append : (b c : Block ℕ) (k : ℕ) → Coded b (first k c) → Coded c k → Coded (b ⊕ c) k
  coded_append end c k p q = q
  coded_append (step l i b) c k p q = rw (first_append k b c) (p.0, p.1, coded_append b c k p.2 q)

-- ---- the program and its copy

-- in the body of procedure m of the program
abbrev pub plain : ℕ → Here
plain = body_in concurrent

module _ (S : Setting) (source : Program ℕ) (procs : List (Proc Plain)) (begin : ℕ → ℕ) where
  -- procedure m is p
  pub record Entry (m : ℕ) (p : Proc ℕ) : Type 0 where
    pub in_n : m < S.N
    pub size : S.L m ≡ p.locals
    pub params : p.params ≤ p.locals
    pub begins : begin m ≡ first (S.ends m) p.body
    pub coded : Coded S procs begin m p.body (S.ends m)
    pub named : named source (S.L m) p.body ≡ true
    pub allowed : allowed (plain m) p.body ≡ true
    pub sets : (u : Rules.Known) × (after (λ x. ltb x p.params) p.body ≡ is u)
    pub last : at procs (S.ends m) ≡ is (simulating (S.L m) (returns S.G m (S.L m)))

-- the program, its copy, and what the two have to do with each other
pub record World : Type 0 where
  pub S : Setting
  pub source : Program ℕ
  pub procs : List (Proc Plain)
  pub begin : ℕ → ℕ
  pub places : length source.sizes ≡ S.h
  pub acyclic : (m : ℕ) → Reaches source.procs m m → ⊥
  -- labels change no call
  pub reached : (k q : ℕ) → Reaches source.procs k q → Reaches S.program k q
  pub entries : (m : ℕ) (p : Proc ℕ) → at source.procs m ≡ is p → Entry S source procs begin m p
  -- the program's table has this many bytes
  pub bytes : ℕ
  pub some : 2 ≤ bytes
  pub brief : (m : ℕ) (p : Proc ℕ) → at source.procs m ≡ is p → length (block p.body) ≤ bytes

-- what the code c of procedure m, above s, calls next is on one call path with each procedure that runs
abbrev pub Chained : World → ℕ → Block ℕ → Stack ℕ → Type 0
Chained W m c s = (a q : ℕ) (es : List Expr) (d : Block ℕ) → c ≡ step a (call q es) d → (k : ℕ) → either (eqb k m) (runs k s) ≡ true
    → Along W.S.program k q

-- the variables of s are set in ρ
abbrev pub Set : Rules.Known → Env → Type 0
Set s ρ = (x : ℕ) → s x ≡ true → (v : Value) × (lookup ρ x ≡ is v)

module _ (W : World) where
  -- code c of procedure m, with locals ρ, where the instructions that w allows may stand
  pub record Fit (w : Here) (m : ℕ) (ρ : Env) (c : Block ℕ) : Type 0 where
    pub full : length ρ ≡ W.S.L m
    pub named : named W.source (W.S.L m) c ≡ true
    pub allowed : allowed w c ≡ true
    pub known : Rules.Known
    pub then : (u : Rules.Known) × (after known c ≡ is u)
    pub set : Set known ρ

  -- the same of a frame, whose code has labels
  pub record FrameSound (m : ℕ) (ρ : Env) (c : Block ℕ) : Type 0 where
    pub proc : (p : Proc ℕ) × (at W.source.procs m ≡ is p)
    pub coded : Coded W.S W.procs W.begin m c (W.S.ends m)
    pub fit : Fit (plain m) m ρ c

  -- each frame of a stack is sound
  abbrev pub StackSound : Stack ℕ → Type 0
  StackSound [] = Unit {0}
  StackSound (f ∷ s) = FrameSound f.proc f.env f.code × StackSound s

-- a variable that is bound is set, and the others stay so
pub set_bound : (s : Rules.Known) (ρ : Env) (x : ℕ) (v : Value) → x < length ρ → Set s ρ → Set (with s x) (bound ρ x v)
set_bound s ρ x v below h y e = elim (ℕ_discrete y x) [
  | yes p ↦ (v, rw p (get_or-set_same ρ x (is v) nothing below))
  | no ne ↦ either_passed (eqb x y) (s y) e
      (λ t. absurd (ne (sym (eqb-true x y t))))
      (λ k. ((h y k).0, get_or-set_other ρ x y (is v) nothing ne ∙ (h y k).1))
]

module _ {W : World} {w : Here} {m : ℕ} {ρ : Env} {a : ℕ} {i : Instr ℕ} {c : Block ℕ} (F : Fit W w m ρ (step a i c)) where
  -- what the first instruction leaves known
  pub fit_first : (u : Rules.Known) × (after_i F.known i ≡ is u) × (after u c ≡ is F.then.0)
  fit_first = bind_is (after_i F.known i) (λ u. after u c) F.then.1

  -- names of the first instruction, and of the rest
  pub fit_named : (named_i W.source (W.S.L m) i ≡ true) × (named W.source (W.S.L m) c ≡ true)
  fit_named = both_passed (named_i W.source (W.S.L m) i) (named W.source (W.S.L m) c) F.named

  -- what is allowed, of the first instruction and of the rest
  pub fit_allowed : (allowed_i w i ≡ true) × (allowed w c ≡ true)
  fit_allowed = both_passed (allowed_i w i) (allowed w c) F.allowed

  -- the code after its first instruction
  unfoldable pub fit_next : (ρ' : Env) → length ρ' ≡ length ρ → Set fit_first.0 ρ' → Fit W w m ρ' c
  fit_next ρ' same g = record {
    full = same ∙ F.full;
    named = fit_named.1;
    allowed = fit_allowed.1;
    known = fit_first.0;
    then = (F.then.0, fit_first.2);
    set = g;
  }

  -- a block b in front of code that is fit, where b starts from what is known here: as much is known after it
  pub fit_front : (b d : Block ℕ) → named W.source (W.S.L m) b ≡ true → allowed w b ≡ true → named W.source (W.S.L m) d ≡ true
      → allowed w d ≡ true
      → (u s : Rules.Known) → after F.known b ≡ is u → s ⊆ u → (v : Rules.Known) → after s d ≡ is v → (H : Fit W w m ρ (b ⊕ d)) × (v ⊆ H.then.0)
  fit_front b d nb lb nd ld u s p less v q =
      let again = after_more d s u less v q in (
        record {
          full = F.full;
          named = named_append W.source (W.S.L m) b d nb nd;
          allowed = allowed_append w b d lb ld;
          known = F.known;
          then = (again.0, after_append b d F.known u p again.1);
          set = F.set;
        },
        again.2,
      )

-- inside a loop, and past it
module _ {W : World} {w : Here} {m : ℕ} {ρ : Env} {a : ℕ} {e : Expr} {b c : Block ℕ} (F : Fit W w m ρ (step a (while e b) c)) where
  -- what is known after the body of a loop
  loop_known : (u : Rules.Known) × (after F.known b ≡ is u) × (is F.known ≡ is (fit_first F).0)
  loop_known =
      bind_is (after F.known b) (λ _. is F.known) (when_is (known F.known e) (after F.known b >>= λ _. is F.known) (fit_first F).1).1

  -- a loop whose test passes
  pub fit_while : Fit W w m ρ (b ⊕ step a (while e b) c)
  fit_while =
      (fit_front F b (step a (while e b) c) (both_passed (Rules.ex W.source (W.S.L m) e) (named W.source (W.S.L m) b) (fit_named F).0).1
      (both_passed (Rules.plainly w) (allowed w b) (fit_allowed F).0).1 F.named F.allowed
      loop_known.0 F.known loop_known.1 (after_grows b F.known loop_known.0 loop_known.1) F.then.0 F.then.1).0

  -- a loop whose test fails
  pub fit_past : Fit W w m ρ c
  fit_past = fit_next F ρ refl (rw (← is_inj loop_known.2) F.set)

-- in a branch
pub fit_if : {W : World} {w : Here} {m : ℕ} {ρ : Env} {a : ℕ} {e : Expr} {b d c : Block ℕ} (t : Bool) → (F : Fit W w m ρ (step a (if e b d) c))
    → (H : Fit W w m ρ (pick t b d ⊕ c)) × (F.then.0 ⊆ H.then.0)
fit_if {W} {w} {m} {ρ} {a} {e} {b} {d} {c} t F =
    let q = when_is (known s e) (after s b >>= λ u. after s d >>= λ v. is (λ x. both (u x) (v x))) (fit_first F).1 in
    let p = bind_is (after s b) (λ u. after s d >>= λ v. is (λ x. both (u x) (v x))) q.1 in
    let o = bind_is (after s d) (λ v. is (λ x. both (p.0 x) (v x))) p.2 in
    branch t p.0 o.0 p.1 o.1 (is_inj o.2)
  where
    s : Rules.Known
    s = F.known

    n : (named W.source (W.S.L m) b ≡ true) × (named W.source (W.S.L m) d ≡ true)
    n =
        both_passed (named W.source (W.S.L m) b) (named W.source (W.S.L m) d)
        (both_passed (Rules.ex W.source (W.S.L m) e)
        (both (named W.source (W.S.L m) b) (named W.source (W.S.L m) d)) (fit_named F).0).1

    l : (allowed w b ≡ true) × (allowed w d ≡ true)
    l = both_passed (allowed w b) (allowed w d) (fit_allowed F).0

    branch : (t : Bool) (u v : Rules.Known) → after s b ≡ is u → after s d ≡ is v → (λ x. both (u x) (v x)) ≡ (fit_first F).0
        → (H : Fit W w m ρ (pick t b d ⊕ c)) × (F.then.0 ⊆ H.then.0)
    branch true u v r r' p =
        fit_front F b c n.0 l.0 (fit_named F).1 (fit_allowed F).1 u (fit_first F).0 r
        (rw (← p) (λ x e. (both_passed (u x) (v x) e).0)) F.then.0
        (fit_first F).2
    branch false u v r r' p =
        fit_front F d c n.1 l.1 (fit_named F).1 (fit_allowed F).1 v (fit_first F).0 r'
        (rw (← p) (λ x e. (both_passed (u x) (v x) e).1)) F.then.0
        (fit_first F).2

-- ---- frames

module _ {W : World} {m : ℕ} {ρ : Env} {a : ℕ} {c : Block ℕ} where
  -- after an instruction that only sets
  pub sound_next : {i : Instr ℕ} (F : FrameSound W m ρ (step a i c)) (ρ' : Env) → length ρ' ≡ length ρ → Set (fit_first F.fit).0 ρ'
      → FrameSound W m ρ' c
  sound_next F ρ' same g = record { proc = F.proc; coded = F.coded.2; fit = fit_next F.fit ρ' same g }

  -- after the test of a loop, passed
  pub sound_while : {e : Expr} {b : Block ℕ} → FrameSound W m ρ (step a (while e b) c) → FrameSound W m ρ (b ⊕ step a (while e b) c)
  sound_while {e} {b} F =
      record {
        proc = F.proc;
        coded = coded_append W.S W.procs W.begin m b (step a (while e b) c) (W.S.ends m) F.coded.1 F.coded;
        fit = fit_while F.fit;
      }

  -- and failed
  pub sound_past : {e : Expr} {b : Block ℕ} → FrameSound W m ρ (step a (while e b) c) → FrameSound W m ρ c
  sound_past F = record { proc = F.proc; coded = F.coded.2; fit = fit_past F.fit }

  -- after the test of an if
  pub sound_if : {e : Expr} {b d : Block ℕ} (t : Bool) → FrameSound W m ρ (step a (if e b d) c) → FrameSound W m ρ (pick t b d ⊕ c)
  sound_if {e} {b} {d} t F = record { proc = F.proc; coded = branch t; fit = (fit_if t F.fit).0 }
    where
      branch : (t : Bool) → Coded W.S W.procs W.begin m (pick t b d ⊕ c) (W.S.ends m)
      branch true = coded_append W.S W.procs W.begin m b c (W.S.ends m) F.coded.1.0 F.coded.2
      branch false = coded_append W.S W.procs W.begin m d c (W.S.ends m) F.coded.1.1 F.coded.2
