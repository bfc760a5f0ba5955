-- One step of a frame's code that is an atomic block, way by way.
use Prim.Native.Nat.{ℕ, ◌+◌, ◌-◌, ◌<◌}
use native.Mathlib.Omega.{arith}
use mathlib.Core.Path.{◌≡◌, refl, sym, ap, subst, ◌∙◌}
use mathlib.Core.List.{List, [], ◌∷◌}
use mathlib.Core.Bool.{true}
use lib.ListN.{length, get_or}
use Rattle.std.specs.Prelude.{Result, Ok, Err}
use Rattle.value.specs.Try.{Try, has, ◌⟫◌}
use Rattle.value.specs.declared.Reason.{Reason}
use Rattle.value.proofs.Laws.Tries.{has_inj, chain_has}
use Rattle.format.specs.Syntax.{atomic, Block, step, concurrent}
use Rattle.format.specs.Labels.{labelled, first, ends_of}
use Rattle.labels.specs.LabelMap as Map
use Rattle.format.specs.Rules.{allowed, allowed_i, named, named_i}
use Rattle.format.proofs.Laws.Grammar.{BlockAt, AtomicAt, atomic_here, block_inside}
use Rattle.format.proofs.Laws.Procs.{body_in}
use Rattle.format.specs.Decode.{max_nesting}
use Rattle.atomic.specs.declared.block.Done.{Done}
use Rattle.concurrent.specs.declared.threads.Turn.TheVariants as T
use Rattle.semantics.specs.Step.{Stack, Moved}
use Rattle.semantics.specs.Threads.{Atomic, size}
use Rattle.atomic.specs.Acts.{within, act}
use Rattle.atomic.specs.Doing.{Doing, DoesWhole}
use Rattle.concurrent.specs.Turning.{Turning, code_of, Turns}
use Rattle.engine.specs.Laws.Work.{beside_same}
use Rattle.atomic.specs.Laws.Acting.{later, acts}
use Rattle.atomic.specs.Laws.Standing.{Running, at_instr}
use Rattle.atomic.specs.Laws.Threading.{beside_wide}
use Rattle.atomic.proofs.Inside.{came, stopped}
use Rattle.atomic.proofs.InsideBlock.{bare, same_later, chain_none}

-- what an atomic block leaves, before code c of procedure m and above the frames s
abbrev pub leaves : ℕ → Block ℕ → Stack ℕ → Atomic → Try (Moved ℕ)
leaves m c s r = has (record { stack = record { proc = m; env = r.env; code = c } ∷ s; memory = r.memory; events = r.events })

-- a block that is a little less deep
pub deeper : {t : List ℕ} {i : ℕ} {b : Block ℕ} {j : ℕ} → BlockAt t i (max_nesting - 1) b j → BlockAt t i max_nesting b j
deeper h = record { stands = h.stands; fits = (omega (arith, h.fits.0), h.fits.1) }

module _ {t : List ℕ} {thread label fb : ℕ} {bs : List ℕ} {i : ℕ} {ls cs o : List ℕ} {n : ℕ} where
  -- there is a byte
  pub turn_inside : Turning t thread label fb bs i ls cs o n → i < length t
  turn_inside h = omega (arith, block_inside h.stands.here)

  -- the atomic block that stands there
  record Block' (h : Turning t thread label fb bs i ls cs o n) : Type 0 where
    pub tag : ℕ
    pub block : Block ℕ
    pub rest : Block ℕ
    pub code : h.c ≡ step tag (atomic block) rest
    pub next : ℕ
    pub here : BlockAt t (i + 1) max_nesting block next
    pub named : named (labelled h.p) (length h.a.env) block ≡ true
    pub allowed : allowed (within h.m) block ≡ true

  atomic_block : (h : Turning t thread label fb bs i ls cs o n) → get_or t i 0 ≡ 0x26 → Block' h
  atomic_block h e =
      let w : Running t h.p h.m i h.c = at_instr h.stands (λ z. omega arith) in
      let v : AtomicAt t i (max_nesting - 1) w.instr w.next = atomic_here w.here e in
      record {
        tag = w.tag;
        block = v.b;
        rest = w.rest;
        code = w.code ∙ ap (λ j. step w.tag j w.rest) v.is;
        next = w.next;
        here = deeper v.body;
        named = names v.b w (subst (λ j. named_i (labelled h.p) w.proc.locals j ≡ true) v.is w.named);
        allowed = subst (λ j. allowed_i (body_in concurrent h.m) j ≡ true) v.is w.allowed;
      }
    where
      names : (b : Block ℕ) (w : Running t h.p h.m i h.c) → named (labelled h.p) w.proc.locals b ≡ true
          → named (labelled h.p) (length h.a.env) b ≡ true
      names b w k = rw (h.full w.proc w.found) k

  -- it can be done
  pub doing_atomic : get_or t i 0 ≡ 0x26 → Turning t thread label fb bs i ls cs o n → Doing t thread label fb bs (i + 1) max_nesting ls cs o n
  doing_atomic e h =
      let b = atomic_block h e in
      record {
        a = h.a;
        es = h.es;
        works = h.works;
        block = b.block;
        j = b.next;
        here = b.here;
        p = labelled h.p;
        named = b.named;
        m = h.m;
        allowed = b.allowed;
        few = omega (arith, h.few, block_inside b.here);
      }

  module _ (h : Turning t thread label fb bs i ls cs o n) (e : get_or t i 0 ≡ 0x26) where
    -- what the code does is what the block does
    block_code : (s : Stack ℕ) → code_of h.p thread h.m h.c h.a s
        ≡ (act thread label (atomic_block h e).block (bare h.a) ⟫ leaves h.m (atomic_block h e).rest s)
    block_code s =
        let b = atomic_block h e in
        let tag : label ≡ b.tag = h.here ∙ ap (first (ends_of h.p h.m)) b.code in
        ap (λ c. code_of h.p thread h.m c h.a s) b.code
        ∙ ap (◌⟫ leaves h.m b.rest s)
        (acts (labelled h.p).procs thread b.tag h.m (size b.block) b.block (omega arith) b.allowed h.a.env h.a.memory []
        ∙ ap (λ l. act thread l b.block (bare h.a)) (sym tag))

  module _ {ls' cs' o' : List ℕ} {r : Result Done Reason} (e : get_or t i 0 ≡ 0x26) (D : DoesWhole t thread label fb bs (i + 1) max_nesting ls cs o n ls' cs' o' r) where
    -- it blocks
    pub turns_stopped : {why : Reason} → r ≡ Err why → Turns t thread label fb bs i ls cs o n ls' cs' o' (Err why)
    unfolding doing_atomic
    turns_stopped q = record {
      beside = λ h. rw (D.still (doing_atomic e h) _ q).0 beside_same;
      answers = λ h.
          let b = atomic_block h e in
          let w = D.still (doing_atomic e h) _ q in
          let none = chain_none (act thread label b.block (bare h.a)) _
          (sym (same_later thread label b.block h.a) ∙ stopped q (D.does.does (doing_atomic e h)))
          in
          record {
            code = λ s. block_code h e s ∙ ap (◌⟫ leaves h.m b.rest s) none;
            works = rw (w.0, w.1, w.2) h.works;
          };
    }

    -- it is done
    pub turns_done : {d : Done} → r ≡ Ok d → Turns t thread label fb bs i ls cs o n ls' cs' o' (Ok (T.Next d.events))
    unfolding doing_atomic
    turns_done q = record {
      beside = λ h. beside_wide (came q (D.does.does (doing_atomic e h))).worked.beside (omega arith) (omega arith);
      answers = λ h.
          let b = atomic_block h e in
          let w = came q (D.does.does (doing_atomic e h)) in
          let v = chain_has (act thread label b.block (bare h.a)) _ (sym (same_later thread label b.block h.a) ∙ w.is) in
          let same : later h.a.events v.0 ≡ w.a = has_inj v.2 in
          record {
            b = later h.a.events v.0;
            new = v.0.events;
            rest = b.rest;
            code = λ s. block_code h e s ∙ ap (◌⟫ leaves h.m b.rest s) v.1;
            label = ap (Map.next (ends_of h.p h.m)) (sym b.code);
            tag = b.tag;
            instr = atomic b.block;
            begins = b.code;
            log = refl;
            works = rw same w.worked.works;
            same = rw same w.worked.same;
            few = omega (arith, w.worked.few, block_inside b.here);
          };
    }
