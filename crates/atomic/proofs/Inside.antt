-- An instruction of an atomic block, way by way.
use Prim.Native.Nat.{ℕ, ◌+◌, ◌≤◌, ◌<◌}
use native.Mathlib.Omega.{arith}
use mathlib.Core.Path.{◌≡◌, refl, sym, ap, subst, ◌∙◌}
use mathlib.Core.List.{List}
use mathlib.Core.Bool.{Bool, true, false}
use lib.ListN.{length}
use Rattle.std.specs.Prelude.{Result, Ok, Err}
use Rattle.value.specs.Try.{Try, has, lacks}
use Rattle.value.specs.declared.Reason.{Reason}
use Rattle.value.proofs.Laws.Tries.{lacks_inj, lacking}
use Rattle.format.specs.Syntax.{Instr, Block, Program}
use Rattle.format.specs.Labels.{tag}
use Rattle.labels.specs.Walks.{BlockIn, CountsBlock}
use Rattle.labels.specs.declared.count.Counted.{Counted}
use Rattle.format.proofs.Laws.Grammar.{BlockAt, instr_inside, block_inside, block_deep}
use Rattle.decide.specs.declared.step.Step.{Step}
use Rattle.decide.specs.declared.step.Step.TheVariants as S
use Rattle.atomic.specs.declared.block.Done.{Done}
use Rattle.engine.specs.Work.{frame_words, Beside}
use Rattle.decide.specs.Decided.{act_end, args_of, Poised, Kept, Lies, DecidesAll}
use Rattle.semantics.specs.Threads.{Atomic}
use Rattle.atomic.specs.Doing.{Works, Worked, to, Went, stops, goes, carried, end_of}
use Rattle.atomic.specs.Doing.{Past, Carrying, Carries, DoingI, Doing, DoesI, Does}
use Rattle.atomic.proofs.Carrying.{never_blocked}
use Rattle.engine.specs.Laws.Work.{framed_below}
use Rattle.atomic.specs.Laws.Standing.{tag_at}
use Rattle.atomic.specs.Laws.Threading.{beside_wide}
use Rattle.atomic.specs.Laws.Fitting.{EndsAt, Simple, Branching, Fitting, fitting, inner_act}
use Rattle.decide.specs.Laws.Deciding.{act_at}

-- ---- how things went

-- words that are others twice
pub beside_again : {ws ws' ws'' : List ℕ} {a b : ℕ} → Beside ws ws' a b → Beside ws' ws'' a b → Beside ws ws'' a b
beside_again p q = record {
  long = q.long ∙ p.long;
  below = λ k m. q.below k m ∙ p.below k m;
  above = λ k m. q.above k m ∙ p.above k m;
}

module _ {fb : ℕ} {bs es ls ls₁ : List ℕ} {n X : ℕ} {ls' cs' o' : List ℕ} {m : Try Atomic} {r : Result Done Reason} where
  -- over a part, from words of which those of the frame were others before
  wider : {i i₁ j : ℕ} → Beside ls ls₁ fb (fb + frame_words) → i ≤ i₁ → Went fb i₁ j bs es ls₁ n X ls' cs' o' m r
      → Went fb i j bs es ls n X ls' cs' o' m r
  wider B h (stops x e q) = stops x e q
  wider B h (goes a k e q w) = goes a k e q (record {
    works = w.works;
    same = w.same;
    beside = beside_again B w.beside;
    few = omega (arith, w.few);
  })

-- what blocks, blocks anywhere
pub none : {fb i j i₁ j₁ : ℕ} {bs es ls ls₁ : List ℕ} {n X : ℕ} {ls' cs' o' ls'' cs'' o'' : List ℕ} {r : Result Done Reason} {u : Reason}
    → Went fb i₁ j₁ bs es ls₁ n X ls'' cs'' o'' (lacks u) r → Went fb i j bs es ls n X ls' cs' o' (lacks u) r
none (stops x e q) = stops x e q
none (goes a k e q w) = lacking e

-- and nothing else does
pub blocks : {fb i j : ℕ} {bs es ls : List ℕ} {n X : ℕ} {ls' cs' o' : List ℕ} {m : Try Atomic} {r : Result Done Reason} {u : Reason} → m ≡ lacks u
    → Went fb i j bs es ls n X ls' cs' o' m r → r ≡ Err u
blocks e (stops x f q) = q ∙ ap Err (lacks_inj (sym f ∙ e))
blocks e (goes a k f q w) = lacking (sym e ∙ f)

-- what it means to come to an end
pub record Came (fb i j : ℕ) (bs es ls : List ℕ) (n X : ℕ) (ls' cs' o' : List ℕ) (m : Try Atomic) (d : Done) : Type 0 where
  pub a : Atomic
  pub is : m ≡ has a
  pub ends : d.next ≡ j
  pub worked : Worked fb i j bs es ls n X a ls' cs' o' d.events

module _ {fb i j : ℕ} {bs es ls : List ℕ} {n X : ℕ} {ls' cs' o' : List ℕ} {m : Try Atomic} {r : Result Done Reason} where
  -- it came to an end
  pub came : {d : Done} → r ≡ Ok d → Went fb i j bs es ls n X ls' cs' o' m r → Came fb i j bs es ls n X ls' cs' o' m d
  came q (stops x e b) = never_blocked (sym q ∙ b)
  came {d} q (goes a l x b w) =
      let is : d ≡ record { next = j; events = l } = cc in
      let end : d.next ≡ j = ap (λ (d : Done). d.next) is in
      let same : d.events ≡ l = ap (λ (d : Done). d.events) is in
      record { a = a; is = x; ends = end; worked = rw same w }

  -- it blocked
  pub stopped : {u : Reason} → r ≡ Err u → Went fb i j bs es ls n X ls' cs' o' m r → m ≡ lacks u
  stopped {u} q (stops x e b) = let same : x ≡ u = cc in e ∙ ap lacks same
  stopped q (goes a k e b w) = never_blocked (sym b ∙ q)

-- something was done before
pub before : {fb i j k e m n X : ℕ} {bs es ls ls₁ cs₁ o₁ ls' cs' o' : List ℕ} {a : Atomic} {M : Try Atomic} {r : Result Done Reason}
    → Worked fb i e bs es ls n X a ls₁ cs₁ o₁ m → k ≡ e → Went fb k j bs es ls₁ m (length a.env) ls' cs' o' M r
    → Went fb i j bs es ls n X ls' cs' o' M r
before w q (stops x e b) = stops x e b
before w q (goes a k e b v) = goes a k e b (record {
  works = v.works;
  same = v.same ∙ w.same;
  beside = beside_again w.beside v.beside;
  few = omega (arith, w.few, v.few);
})

-- a block without tags
pub plain_in : {t : List ℕ} {i d j : ℕ} {b : Block ℕ} → BlockAt t i d b j → BlockIn t i d
plain_in {j = j} {b} h = record { block = tag tt b; next = j; there = tag_at tt h; inside = omega (arith, block_inside h); deep = block_deep h }

-- it ends where it was counted to
counted_end : {t : List ℕ} {i d j : ℕ} {b : Block ℕ} {c : Counted} → BlockAt t i d b j → CountsBlock t i d c → c.next ≡ j
counted_end {j = j} {b} h C = ap (λ (c : Counted). c.next) (C.gives (tag tt b) j (tag_at tt h))

-- a step that ends where its instruction does
ends : {fb i j : ℕ} {bs es ls : List ℕ} {n X : ℕ} {ls' cs' o' : List ℕ} {r : Result Done Reason} (thread label : ℕ) (a : Atomic) (u : Step) → EndsAt u j
    → Went fb i (end_of u) bs es ls n X ls' cs' o' (carried thread label u a) r → Went fb i j bs es ls n X ls' cs' o' (carried thread label u a) r
ends thread label a (S.Assign x v k) e w = rw e at w
ends thread label a (S.Read x l i v k) e w = rw e at w
ends thread label a (S.Write l i c v k) e w = rw e at w
ends thread label a S.Return e w = none w
ends thread label a (S.Test q k) e w = none w
ends thread label a (S.Call m k) e w = none w
ends thread label a (S.Select c u k) e w = none w
ends thread label a (S.Blocked q) e w = none w

-- it ends behind where it begins
past : {i j : ℕ} (u : Step) → EndsAt u j → i < j → Past i u
past (S.Assign x v k) e l = omega arith
past (S.Read x l i v k) e h = omega arith
past (S.Write l i c v k) e h = omega arith
past S.Return e l = tt
past (S.Test q k) e l = tt
past (S.Call m k) e l = tt
past (S.Select c u k) e l = tt
past (S.Blocked q) e l = tt

-- all steps but a test
abbrev NoTest : Step → Type 0
NoTest u = (q : Bool) (k : ℕ) → u ≡ S.Test q k → ⊥

-- are carried out
simple : (t : List ℕ) {thread label : ℕ} (i d : ℕ) {j : ℕ} (p : Program ℕ) (X m : ℕ) {s : Instr ℕ} {a : Atomic} (u : Step) → NoTest u
    → Fitting t thread label i d j p X m s a u → Simple thread label j s a u
simple t i d p X m (S.Assign x v k) h f = f
simple t i d p X m (S.Read x l z v k) h f = f
simple t i d p X m (S.Write l z c v k) h f = f
simple t i d p X m S.Return h f = f
simple t i d p X m (S.Test q k) h f = absurd (h q k refl)
simple t i d p X m (S.Call q k) h f = f
simple t i d p X m (S.Select c u k) h f = f
simple t i d p X m (S.Blocked q) h f = f

-- a test that is known
told : {u : Step} {q v : Bool} {k : ℕ} → u ≡ S.Test q k → q ≡ v → u ≡ S.Test v k
told {k = k} e f = e ∙ ap (λ q. S.Test q k) f

-- ---- an instruction

module _ {t : List ℕ} {thread label fb : ℕ} {bs : List ℕ} {i d : ℕ} {ls cs o : List ℕ} {n : ℕ} where
  -- it can be decided
  pub instr_poised : DoingI t thread label fb bs i d ls cs o n → Poised t ls fb i
  instr_poised h = record {
    env = h.a.env;
    framed = h.works.framed;
    act = (inner_act h.m h.instr h.allowed).0;
    j = act_end i h.instr;
    here =
        let k = inner_act h.m h.instr h.allowed in
        act_at t i (length h.a.env) h.p h.instr k.0 k.1 h.here.stands h.here.fits.1 h.named (rw k.2 (omega arith));
    narrow = h.works.small;
    room = h.works.room;
  }

  -- in its memory
  lies : (h : DoingI t thread label fb bs i d ls cs o n) → Lies bs cs h.a.memory
  lies h = record { bases = h.works.bases; holds = h.works.holds }

  pub instr_kept : DoingI t thread label fb bs i d ls cs o n → Kept bs cs
  instr_kept h = record { memory = h.a.memory; lies = lies h }

  module _ {ls₁ : List ℕ} {u : Step} (E : DecidesAll t ls ls₁ fb i (Lies bs cs) u) where
    -- the step that was decided is the instruction
    fit : (h : DoingI t thread label fb bs i d ls cs o n) → Fitting t thread label i d h.j h.p (length h.a.env) h.m h.instr h.a u
    unfolding instr_poised
    fit h =
        let k = inner_act h.m h.instr h.allowed in
        subst (Fitting t thread label i d h.j h.p (length h.a.env) h.m h.instr h.a)
        (sym (E.decides.step (instr_poised h) h.a.memory (lies h)))
        (fitting thread label h.a h.p h.m h.instr k.0 k.1 h.here h.named h.allowed)

    -- it is carried out
    as_simple : NoTest u → (h : DoingI t thread label fb bs i d ls cs o n) → Simple thread label h.j h.instr h.a u
    as_simple k h = simple t i d h.p (length h.a.env) h.m u k (fit h)

    -- the words of its frame are the same
    same_words : (h : DoingI t thread label fb bs i d ls cs o n) → Beside ls ls₁ (fb + frame_words) (fb + frame_words)
    unfolding instr_poised
    same_words h =
        let k = inner_act h.m h.instr h.allowed in
        let B : Beside ls ls₁ (fb + frame_words) (fb + frame_words + length (args_of k.0)) = E.passes.beside (instr_poised h) in
        let zero : fb + frame_words + length (args_of k.0) ≡ fb + frame_words = ap (λ es. fb + frame_words + length es) k.2 ∙ omega arith in
        rw zero at B

    -- all is at work as before
    works_on : (h : DoingI t thread label fb bs i d ls cs o n) → Works fb bs h.es ls₁ cs o n h.a
    works_on h = record {
      framed = framed_below (same_words h) (omega (arith, h.works.small)) h.works.framed;
      room = omega (arith, h.works.room, (same_words h).long);
      small = h.works.small;
      holds = h.works.holds;
      bases = h.works.bases;
      logged = h.works.logged;
    }

    -- and of other words only those of the frame
    frame_only : (h : DoingI t thread label fb bs i d ls cs o n) → Beside ls ls₁ fb (fb + frame_words)
    frame_only h = beside_wide (same_words h) (omega arith) (omega arith)

    -- it can be carried out
    pub instr_carrying : NoTest u → DoingI t thread label fb bs i d ls cs o n → Carrying fb u ls₁ cs o n
    instr_carrying k h = record {
      a = h.a;
      bs = bs;
      es = h.es;
      works = works_on h;
      fits = (as_simple k h).fits;
      few = omega (arith, h.few, instr_inside h.here);
    }

    -- it was carried out
    pub does_carried : {ls' cs' o' : List ℕ} {r : Result Done Reason} → NoTest u → Carries thread label fb u ls₁ cs o n ls' cs' o' r
        → DoesI t thread label fb bs i d ls cs o n ls' cs' o' r
    unfolding instr_carrying
    does_carried {ls'} {cs'} {o'} {r} k C = record {
      does = λ h.
          let s : Simple thread label h.j h.instr h.a u = as_simple k h in
          let w = ends thread label h.a u s.ends (C.carries (instr_carrying k h) i (past u s.ends (instr_inside h.here).0)) in
          rw s.same (wider (frame_only h) (omega arith) w);
    }

    -- ---- a test

    -- the blocks of its if
    branching : {q : Bool} {k : ℕ} → u ≡ S.Test q k → (h : DoingI t thread label fb bs i d ls cs o n)
        → Branching t thread label i d h.j h.p (length h.a.env) h.m h.instr h.a q k
    branching e h = subst (Fitting t thread label i d h.j h.p (length h.a.env) h.m h.instr h.a) e (fit h)

    -- its first block is to be done
    pub doing_then : {q : Bool} {k : ℕ} → u ≡ S.Test q k → q ≡ true → DoingI t thread label fb bs i d ls cs o n → Doing t thread label fb bs k d ls₁ cs o n
    doing_then e f h =
        let b = branching (told e f) h in
        record {
          a = h.a;
          es = h.es;
          works = works_on h;
          block = b.yes;
          j = b.l;
          here = b.first;
          p = h.p;
          named = b.named.0;
          m = h.m;
          allowed = b.allowed.0;
          few = omega (arith, h.few, b.past, block_inside b.second);
        }

    -- the second follows it
    pub then_after : {q : Bool} {k : ℕ} {ls' cs' o' : List ℕ} {r : Result Done Reason} {e : Done} → u ≡ S.Test q k → q ≡ true
        → Does t thread label fb bs k d ls₁ cs o n ls' cs' o' r → r ≡ Ok e → DoingI t thread label fb bs i d ls cs o n → BlockIn t e.next d
    unfolding doing_then
    then_after e f D r h = rw (came r (D.does (doing_then e f h))).ends (plain_in (branching (told e f) h).second)

    -- the first block blocks
    pub does_then_blocked : {q : Bool} {k : ℕ} {ls' cs' o' : List ℕ} {r : Result Done Reason} {v : Reason} → u ≡ S.Test q k → q ≡ true
        → Does t thread label fb bs k d ls₁ cs o n ls' cs' o' r → r ≡ Err v → DoesI t thread label fb bs i d ls cs o n ls' cs' o' (Err v)
    unfolding doing_then
    does_then_blocked {v = v} e f D z = record {
      does = λ h. stops v ((branching (told e f) h).same ∙ stopped z (D.does (doing_then e f h))) refl;
    }

    -- the first block is done, and the second passed over
    pub does_then : {q : Bool} {k : ℕ} {ls' cs' o' : List ℕ} {r : Result Done Reason} {e : Done} {c : Counted} → u ≡ S.Test q k → q ≡ true
        → Does t thread label fb bs k d ls₁ cs o n ls' cs' o' r
        → r ≡ Ok e → CountsBlock t e.next d c → DoesI t thread label fb bs i d ls cs o n ls' cs' o' (to c.next e.events)
    unfolding doing_then
    does_then {k = k} {e = e} {c = c} g f D r C = record {
      does = λ h.
          let b = branching (told g f) h in
          let w = came r (D.does (doing_then g f h)) in
          let there : BlockAt t e.next d b.no h.j = rw w.ends b.second in
          goes w.a e.events (b.same ∙ w.is) (ap (λ x. to x e.events) (counted_end there C)) (record {
            works = w.worked.works;
            same = w.worked.same;
            beside = beside_again (frame_only h) w.worked.beside;
            few = omega (arith, w.worked.few, b.past, block_inside b.second);
          });
    }

    -- the first block is to be passed over
    pub else_before : {q : Bool} {k : ℕ} → u ≡ S.Test q k → q ≡ false → DoingI t thread label fb bs i d ls cs o n → BlockIn t k d
    else_before e f h = plain_in (branching (told e f) h).first

    -- the second is to be done
    pub doing_else : {q : Bool} {k : ℕ} {c : Counted} → u ≡ S.Test q k → q ≡ false → CountsBlock t k d c → DoingI t thread label fb bs i d ls cs o n
        → Doing t thread label fb bs c.next d ls₁ cs o n
    doing_else e f C h =
        let b = branching (told e f) h in
        record {
          a = h.a;
          es = h.es;
          works = works_on h;
          block = b.no;
          j = h.j;
          here = rw (counted_end b.first C) b.second;
          p = h.p;
          named = b.named.1;
          m = h.m;
          allowed = b.allowed.1;
          few = omega (arith, h.few, b.past, counted_end b.first C, block_inside b.first);
        }

    -- the second is done
    pub does_else : {q : Bool} {k : ℕ} {c : Counted} {ls' cs' o' : List ℕ} {r : Result Done Reason} → u ≡ S.Test q k → q ≡ false → CountsBlock t k d c
        → Does t thread label fb bs c.next d ls₁ cs o n ls' cs' o' r → DoesI t thread label fb bs i d ls cs o n ls' cs' o' r
    unfolding doing_else
    does_else {c = c} e f C D = record {
      does = λ h.
          let b = branching (told e f) h in
          let low : i ≤ c.next = omega (arith, b.past, counted_end b.first C, block_inside b.first) in
          rw b.same (wider (frame_only h) low (D.does (doing_else e f C h)));
    }

-- one law for each way through an instruction
pub ruleset instr_ways = (
  instr_poised,
  instr_kept,
  instr_carrying,
  does_carried,
  doing_then,
  then_after,
  does_then_blocked,
  does_then,
  else_before,
  doing_else,
  does_else,
)
