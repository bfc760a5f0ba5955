-- A block inside an atomic block, and the whole of it, way by way.
use Prim.Native.Nat.{ℕ, ◌+◌, ◌-◌, ◌≤◌, ◌<◌}
use native.Mathlib.Omega.{arith}
use mathlib.Core.Path.{◌≡◌, refl, sym, ap, subst, ◌∙◌}
use mathlib.Core.List.{List, [], ◌++◌, append-nil}
use mathlib.Core.Bool.{true}
use lib.ListN.{length, get_or, take, drop, get_or-append}
use Rattle.std.proofs.lemmas.List.{length-drop, length-take-le, get_or-take, get_or-drop}
use Rattle.std.specs.Prelude.{Result, Ok, Err}
use Rattle.value.specs.Try.{Try, has, lacks, ◌⟫◌}
use Rattle.value.specs.declared.Reason.{Reason}
use Rattle.value.proofs.Laws.Tries.{lacks_inj, lacking}
use Rattle.value.proofs.Laws.Tests.{both_passed}
use Rattle.format.specs.Syntax.{Block}
use Rattle.format.specs.Rules.{allowed, allowed_i, named, named_i}
use Rattle.format.proofs.Laws.Grammar.{StepAt, end_here, step_here, instr_inside, block_inside, block_deep}
use Rattle.atomic.specs.declared.block.Done.{Done}
use Rattle.semantics.specs.Memory.{Env}
use Rattle.semantics.specs.Threads.{Atomic}
use Rattle.engine.specs.Words.{held}
use Rattle.engine.specs.Work.{frame_words, Framed}
use Rattle.atomic.specs.Acts.{within, act}
use Rattle.atomic.specs.Doing.{to, stops, goes, DoingI, Doing, DoesI, Does, Copies, DoesWhole}
use Rattle.engine.specs.Laws.Work.{beside_same}
use Rattle.engine.specs.Laws.Logging.{logged_none}
use Rattle.atomic.specs.Laws.Acting.{later, act_later}
use Rattle.atomic.proofs.Carrying.{never_blocked}
use Rattle.atomic.proofs.Inside.{blocks, came, stopped, before}

-- ---- a block

-- up to here, from where the block began: what is done from here on is what is done from there
pub record Going (t : List ℕ) (thread label fb : ℕ) (bs : List ℕ) (d i₀ : ℕ) (ls₀ cs₀ o₀ : List ℕ) (n₀ i : ℕ) (ls cs o : List ℕ) (n : ℕ) : Type 0 where
  pub ready : Doing t thread label fb bs i d ls cs o n
  pub back : (ls' cs' o' : List ℕ) (r : Result Done Reason) → Does t thread label fb bs i d ls cs o n ls' cs' o' r → Does t thread label fb bs i₀ d ls₀ cs₀ o₀ n₀ ls' cs' o' r

module _ {t : List ℕ} {thread label fb : ℕ} {bs : List ℕ} {d : ℕ} where
  -- at its beginning
  pub going_none : {i : ℕ} {ls cs o : List ℕ} {n : ℕ} → Doing t thread label fb bs i d ls cs o n → Going t thread label fb bs d i ls cs o n i ls cs o n
  going_none h = record { ready = h; back = λ ls' cs' o' r D. D }

  module _ {i : ℕ} {ls cs o : List ℕ} {n : ℕ} where
    -- the names of the first instruction and of the rest
    names : (z : get_or t i 0 ≡ 0 → ⊥) (h : Doing t thread label fb bs i d ls cs o n)
        → (named_i h.p (length h.a.env) (step_here h.here z).s ≡ true)
        × (named h.p (length h.a.env) (step_here h.here z).rest ≡ true)
    names z h =
        let w : StepAt t i d h.block h.j = step_here h.here z in
        both_passed (named_i h.p (length h.a.env) w.s) (named h.p (length h.a.env) w.rest)
        (subst (λ b. named h.p (length h.a.env) b ≡ true) w.is h.named)

    -- what may stand there
    mays : (z : get_or t i 0 ≡ 0 → ⊥) (h : Doing t thread label fb bs i d ls cs o n)
        → (allowed_i (within h.m) (step_here h.here z).s ≡ true) × (allowed (within h.m) (step_here h.here z).rest ≡ true)
    mays z h =
        let w : StepAt t i d h.block h.j = step_here h.here z in
        both_passed (allowed_i (within h.m) w.s) (allowed (within h.m) w.rest)
        (subst (λ b. allowed (within h.m) b ≡ true) w.is h.allowed)

    -- an instruction is to be done
    pub doing_one : (get_or t i 0 ≡ 0 → ⊥) → Doing t thread label fb bs i d ls cs o n → DoingI t thread label fb bs i (d - 1) ls cs o n
    doing_one z h =
        let w : StepAt t i d h.block h.j = step_here h.here z in
        record {
          a = h.a;
          es = h.es;
          works = h.works;
          instr = w.s;
          j = w.k;
          here = w.here;
          p = h.p;
          named = (names z h).0;
          m = h.m;
          allowed = (mays z h).0;
          few = omega (arith, h.few, block_inside w.after);
        }

    module _ {ls₁ cs₁ o₁ : List ℕ} {r : Result Done Reason} (z : get_or t i 0 ≡ 0 → ⊥) (E : DoesI t thread label fb bs i (d - 1) ls cs o n ls₁ cs₁ o₁ r) where
      -- then the rest is
      pub doing_rest : {e : Done} → r ≡ Ok e → Doing t thread label fb bs i d ls cs o n → Doing t thread label fb bs e.next d ls₁ cs₁ o₁ e.events
      unfolding doing_one
      doing_rest q h =
          let w : StepAt t i d h.block h.j = step_here h.here z in
          let v = came q (E.does (doing_one z h)) in
          record {
            a = v.a;
            es = h.es;
            works = v.worked.works;
            block = w.rest;
            j = h.j;
            here = rw v.ends w.after;
            p = h.p;
            named = rw v.worked.same (names z h).1;
            m = h.m;
            allowed = (mays z h).1;
            few = omega (arith, h.few, v.worked.few, v.ends);
          }

      -- the instruction blocks
      pub does_stop : {v : Reason} → r ≡ Err v → Does t thread label fb bs i d ls cs o n ls₁ cs₁ o₁ (Err v)
      unfolding doing_one
      does_stop {v} s = record {
        does = λ h.
            let w : StepAt t i d h.block h.j = step_here h.here z in
            stops v (ap (λ b. act thread label b h.a) w.is ∙ ap (λ m. m ⟫ act thread label w.rest) (stopped s (E.does (doing_one z h)))) refl;
      }

      -- the rest is done
      does_on : {e : Done} {ls' cs' o' : List ℕ} {x : Result Done Reason} → r ≡ Ok e → Does t thread label fb bs e.next d ls₁ cs₁ o₁ e.events ls' cs' o' x
          → Does t thread label fb bs i d ls cs o n ls' cs' o' x
      unfolding doing_one doing_rest
      does_on q D = record {
        does = λ h.
            let w : StepAt t i d h.block h.j = step_here h.here z in
            let v = came q (E.does (doing_one z h)) in
            let same : act thread label h.block h.a ≡ act thread label w.rest v.a =
            ap (λ b. act thread label b h.a) w.is ∙ ap (λ m. m ⟫ act thread label w.rest) v.is
            in
            rw same (before v.worked v.ends (D.does (doing_rest q h)));
      }

      -- the next instruction is behind this one
      rest_less : {e : Done} → r ≡ Ok e → Doing t thread label fb bs i d ls cs o n → i < e.next
      unfolding doing_one
      rest_less q h =
          let v = came q (E.does (doing_one z h)) in
          omega (arith, v.ends, instr_inside (step_here h.here z).here)

  -- the block ends
  does_end : {i : ℕ} {ls cs o : List ℕ} {n : ℕ} → get_or t i 0 ≡ 0 → Does t thread label fb bs i d ls cs o n ls cs o (to (i + 1) n)
  does_end {n = n} z = record {
    does = λ h.
        let w = end_here h.here z in
        goes h.a n (ap (λ b. act thread label b h.a) w.0) (ap (λ x. to x n) (sym w.1)) (record {
          works = h.works;
          same = refl;
          beside = beside_same;
          few = omega (arith, w.1);
        });
  }

  module _ {i₀ : ℕ} {ls₀ cs₀ o₀ : List ℕ} {n₀ i : ℕ} {ls cs o : List ℕ} {n : ℕ} (G : Going t thread label fb bs d i₀ ls₀ cs₀ o₀ n₀ i ls cs o n) where
    -- there is a byte
    pub going_inside : i < length t
    going_inside = omega (arith, block_inside G.ready.here)

    -- and a block
    pub going_deep : 1 ≤ d
    going_deep = block_deep G.ready.here

    -- an instruction is to be done
    pub going_one : (get_or t i 0 ≡ 0 → ⊥) → DoingI t thread label fb bs i (d - 1) ls cs o n
    going_one z = doing_one z G.ready

    -- it is done, and the block goes on
    pub going_on : {ls₁ cs₁ o₁ : List ℕ} {r : Result Done Reason} {e : Done} → (get_or t i 0 ≡ 0 → ⊥) → DoesI t thread label fb bs i (d - 1) ls cs o n ls₁ cs₁ o₁ r
        → r ≡ Ok e → Going t thread label fb bs d i₀ ls₀ cs₀ o₀ n₀ e.next ls₁ cs₁ o₁ e.events
    going_on z E q = record { ready = doing_rest z E q G.ready; back = λ ls' cs' o' x D. G.back ls' cs' o' x (does_on z E q D) }

    -- fewer bytes are left
    pub going_less : {ls₁ cs₁ o₁ : List ℕ} {r : Result Done Reason} {e : Done} → (get_or t i 0 ≡ 0 → ⊥) → DoesI t thread label fb bs i (d - 1) ls cs o n ls₁ cs₁ o₁ r
        → r ≡ Ok e → length t - e.next < length t - i
    going_less z E q = omega (arith, rest_less z E q G.ready, block_inside G.ready.here)

    -- it blocks
    pub going_stop : {ls₁ cs₁ o₁ : List ℕ} {r : Result Done Reason} {v : Reason} → (get_or t i 0 ≡ 0 → ⊥) → DoesI t thread label fb bs i (d - 1) ls cs o n ls₁ cs₁ o₁ r
        → r ≡ Err v → Does t thread label fb bs i₀ d ls₀ cs₀ o₀ n₀ ls₁ cs₁ o₁ (Err v)
    going_stop {ls₁} {cs₁} {o₁} {v = v} z E q = G.back ls₁ cs₁ o₁ (Err v) (does_stop z E q)

    -- the block ends
    pub going_end : get_or t i 0 ≡ 0 → Does t thread label fb bs i₀ d ls₀ cs₀ o₀ n₀ ls cs o (to (i + 1) n)
    going_end z = G.back ls cs o (to (i + 1) n) (does_end z)

-- one law for each way through a block
pub ruleset block_ways = (going_none, going_inside, going_deep, going_one, going_on, going_less, going_stop, going_end)

-- ---- a whole block

-- before any event
abbrev pub bare : Atomic → Atomic
bare a = record { env = a.env; memory = a.memory; events = [] }

-- the same with the events before
pub same_later : (thread label : ℕ) (b : Block ℕ) (a : Atomic) → act thread label b a ≡ (act thread label b (bare a) ⟫ λ r. has (later a.events r))
same_later thread label b a =
    let same : later a.events (bare a) ≡ a = ap (λ evs. record { env = a.env; memory = a.memory; events = evs }) (append-nil a.events) in
    ap (act thread label b) (sym same) ∙ act_later thread label a.events b (bare a)

-- a chain that stops before its last link
pub chain_none : {A B : Type 0} (m : Try A) (f : A → B) {u : Reason} → (m ⟫ λ x. has (f x)) ≡ lacks u → m ≡ lacks u
chain_none (has x) f e = lacking (sym e)
chain_none (lacks q) f e = ap lacks (lacks_inj e)

-- as many words as are cut out are laid over the first ones
pub cut_length : (ls ws : List ℕ) (fb n : ℕ) → fb + n ≤ length ls → n ≤ length ws → length (take n ws) ≡ length (take (fb + n - fb) (drop fb ls))
cut_length ls ws fb n l m =
    let same : fb + n - fb ≡ n = omega arith in
    let long : n ≤ length (drop fb ls) = omega (arith, length-drop fb ls) in
    rw same (length-take-le n ws m ∙ sym (length-take-le n (drop fb ls) long))

-- so they are copied
pub copies_cut : (ls ws : List ℕ) {fb n : ℕ} → fb + n ≤ length ls → Copies ls fb n (take (fb + n - fb) (drop fb ls) ++ ws)
copies_cut ls ws {fb} {n} l = record {
  each = λ k m.
      let same : fb + n - fb ≡ n = omega arith in
      let long : n ≤ length (drop fb ls) = omega (arith, length-drop fb ls) in
      rw same (get_or-append (take n (drop fb ls)) ws 0 k (omega (arith, length-take-le n (drop fb ls) long))
      ∙ get_or-take n (drop fb ls) k 0 m
      ∙ get_or-drop fb ls k 0);
}

-- there are such words
pub whole_room : {t : List ℕ} {thread label fb : ℕ} {bs : List ℕ} {i d : ℕ} {ls cs o : List ℕ} {n : ℕ} → Doing t thread label fb bs i d ls cs o n
    → fb + frame_words ≤ length ls
whole_room h = omega (arith, h.works.room)

-- they hold the frame's locals
copied : {ls ws : List ℕ} {fb : ℕ} {ρ : Env} → Copies ls fb frame_words ws → length ws ≡ frame_words + frame_words → length ρ ≤ frame_words
    → Framed ls fb ρ → Framed ws 0 ρ
copied C long l f = record {
  room = omega arith;
  each = λ x m. let none : 0 + x ≡ x = omega arith in rw none (ap held (C.each x (omega arith)) ∙ f.each x m);
}

module _ {t : List ℕ} {thread label fb : ℕ} {bs : List ℕ} {i d : ℕ} {ls cs o : List ℕ} {n : ℕ} {ws : List ℕ} (C : Copies ls fb frame_words ws)
    (long : length ws ≡ frame_words + frame_words) where
  -- it can be tried on them, with another buffer
  pub doing_tried : (e : List ℕ) → Doing t thread label fb bs i d ls cs o n → Doing t thread label 0 bs i d ws cs e 0
  doing_tried e h = record {
    a = bare h.a;
    es = e;
    works = record {
      framed = copied C long h.works.small h.works.framed;
      room = omega arith;
      small = h.works.small;
      holds = h.works.holds;
      bases = h.works.bases;
      logged = logged_none;
    };
    block = h.block;
    j = h.j;
    here = h.here;
    p = h.p;
    named = h.named;
    m = h.m;
    allowed = h.allowed;
    few = omega (arith, h.few);
  }

  module _ {e ls₁ cs₁ e₁ : List ℕ} {r₁ : Result Done Reason} (T : Does t thread label 0 bs i d ws cs e 0 ls₁ cs₁ e₁ r₁) where
    -- it blocked when it was tried
    pub whole_blocked : {v : Reason} → r₁ ≡ Err v → DoesWhole t thread label fb bs i d ls cs o n ls cs o (Err v)
    unfolding doing_tried
    whole_blocked {v} z = record {
      does = record {
        does = λ h.
            let none = stopped z (T.does (doing_tried e h)) in
            stops v (same_later thread label h.block h.a ∙ ap (◌⟫ λ r. has (later h.a.events r)) none) refl;
      };
      still = λ h x b. (refl, refl, refl);
    }

    -- it did not
    pub whole_done : {f : Done} {ls' cs' o' : List ℕ} {r : Result Done Reason} → r₁ ≡ Ok f → Does t thread label fb bs i d ls cs o n ls' cs' o' r
        → DoesWhole t thread label fb bs i d ls cs o n ls' cs' o' r
    unfolding doing_tried
    whole_done q D = record {
      does = D;
      still = λ h x b.
          let none = chain_none (act thread label h.block (bare h.a)) _ (sym (same_later thread label h.block h.a) ∙ stopped b (D.does h)) in
          never_blocked (sym q ∙ blocks none (T.does (doing_tried e h)));
    }
