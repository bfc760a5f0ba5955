-- Rule 8 on the instructions that hold blocks, on blocks and on procedures, as the code judges it.
use Rattle.std.specs.Prelude.{ℕ, ◌+◌, ◌*◌, ◌-◌, ◌≤◌, ◌<◌, ◌≡◌, List, Bool, true, false, length, get_or, ltb, refl, Option, Some, None}
use Rattle.std.proofs.Common.{arith, ap, ◌∙◌}
use Rattle.std.proofs.Math.Path.{sym}
use Rattle.std.proofs.Math.Bool as B
use Rattle.std.specs.Int.Bits.{bit_and}
use Rattle.std.proofs.lemmas.Bool.{not-true, not-false}
use Rattle.value.specs.Maybe.{Maybe, is, nothing, there}
use Rattle.std.specs.Option.{is_some}
use Rattle.format.specs.Syntax.{Instr, if, Block, end, step, Plain, Proc, Program}
use Rattle.format.specs.Rules.{Known, known, after_i, after, set_first}
use Rattle.basics.specs.BitSets.{bits}
use Rattle.reader.specs.BitSets.{below}
use Rattle.reader.specs.Laws.BitSets.{set_bit, far_bit, low_bits, no_bits, some_bit, bits_both, bits_below}
use Rattle.format.proofs.Laws.Names.{Names, NamesI}
use Rattle.format.proofs.Laws.Grammar.{BlockAt, WhileAt, IfAt, AtomicAt, StepAt, while_here, if_here, atomic_here}
use Rattle.format.proofs.Laws.Grammar.{end_here, step_here, block_inside, block_deep}
use Rattle.format.proofs.Laws.TablePlaces.{body_at}
use Rattle.format.specs.Decode.{max_nesting}
use Rattle.format.specs.Encode.{record_size}
use Rattle.scan.specs.Laws.Laid.{Laid, Named, ProcNamed, proc_named_lem, Judges, proc_of, params_at, body_here, BodyStarts}
use Rattle.scan.specs.Laws.Laid.{Passed, none_passed, one_passed, passed_all, failed_one}
use Rattle.reader.specs.Laws.KnownScans.{Knows, test_set, test_unset}
use Rattle.reader.specs.Laws.SetPlain.{outcome, reached, InstrHere, BlockHere, SetsInstr, SetsPlain, SetsBlock}
use Rattle.reader.specs.Laws.SetPlain.{unset, set_inj, reached_is, reached_not, instr_fails, instr_sets, block_set, block_unset, inner}
use Rattle.reader.specs.Laws.SetPlain.{settled_at, settled_nothing, sets_assign, sets_write, not_write, sets_read, not_read}
use Rattle.reader.specs.Laws.SetPlain.{sets_call, sets_select, no_plain}

-- ---- instructions that hold blocks

module _ (t : List ℕ) (i d s : ℕ) where
  -- "23 e block": a variable of e is not set
  pub while_cut : {f : Option ℕ} → get_or t i 0 ≡ 0x23 → Knows t (i + 1) 1 s f → f ≡ None → SetsInstr t i d s None
  while_cut m F q = instr_fails λ a j h.
      let here : WhileAt t i d a j = while_here h.at m in
      ap (after_i (bits s)) here.is ∙ rw (test_unset F q here.e here.test)

  module _ {f : Option ℕ} {k : ℕ} {g : Option (ℕ × ℕ)} (m : get_or t i 0 ≡ 0x23) (F : Knows t (i + 1) 1 s f) (q : f ≡ Some k) (G : SetsBlock t k d s g) where
    -- the test is passed
    record Tested (a : Instr Plain) (j : ℕ) : Type 0 where
      here : WhileAt t i d a j
      test : known (bits s) here.e ≡ true
      body : BlockHere t k d here.b j

    -- it is, where a while stands
    tested : (a : Instr Plain) (j : ℕ) → InstrHere t i d a j → Tested a j
    tested a j h =
        let here : WhileAt t i d a j = while_here h.at m in
        let test : (known (bits s) here.e ≡ true) × (k ≡ here.k) = test_set F q here.e here.test in
        record { here = here; test = test.0; body = inner h (rw test.1 here.body) (rw here.is at h.names).1 }

    -- a variable of the block is not set
    pub while_unset : g ≡ None → SetsInstr t i d s None
    while_unset u = instr_fails λ a j h.
        let w : Tested a j = tested a j h in
        ap (after_i (bits s)) w.here.is ∙ rw (w.test, block_unset G w.body u)

    -- all are
    pub sets_while : {n u : ℕ} → g ≡ Some (n, u) → SetsInstr t i d s (Some (n, s))
    sets_while {n} {u} e = instr_sets (omega (arith, F.ahead k q, G.ahead n u e)) λ a j h.
        let w : Tested a j = tested a j h in
        let some : (after (bits s) w.here.b ≡ is (bits u)) × (n ≡ j) = block_set G w.body e in
        (ap (after_i (bits s)) w.here.is ∙ rw (w.test, some.0), some.1)

  -- "24 e block block": a variable of e is not set
  pub if_cut : {f : Option ℕ} → get_or t i 0 ≡ 0x24 → Knows t (i + 1) 1 s f → f ≡ None → SetsInstr t i d s None
  if_cut m F q = instr_fails λ a j h.
      let here : IfAt t i d a j = if_here h.at m in
      ap (after_i (bits s)) here.is ∙ rw (test_unset F q here.e here.test)

  module _ {f : Option ℕ} {k : ℕ} {g : Option (ℕ × ℕ)} (m : get_or t i 0 ≡ 0x24) (F : Knows t (i + 1) 1 s f) (q : f ≡ Some k) (G : SetsBlock t k d s g) where
    -- the test is passed
    record Chosen (a : Instr Plain) (j : ℕ) : Type 0 where
      here : IfAt t i d a j
      test : known (bits s) here.e ≡ true
      yes : BlockHere t k d here.b here.l
      no : BlockHere t here.l d here.c j

    -- it is, where an if stands
    chosen : (a : Instr Plain) (j : ℕ) → InstrHere t i d a j → Chosen a j
    chosen a j h =
        let here : IfAt t i d a j = if_here h.at m in
        let test : (known (bits s) here.e ≡ true) × (k ≡ here.k) = test_set F q here.e here.test in
        let names : NamesI h.program h.locals (if here.e here.b here.c) = rw here.is at h.names in
        record { here = here; test = test.0; yes = inner h (rw test.1 here.first) names.1.0; no = inner h here.second names.1.1 }

    -- a variable of the first block is not set
    pub then_unset : g ≡ None → SetsInstr t i d s None
    then_unset u = instr_fails λ a j h.
        let w : Chosen a j = chosen a j h in
        ap (after_i (bits s)) w.here.is ∙ rw (w.test, block_unset G w.yes u)

    module _ {n u : ℕ} (e : g ≡ Some (n, u)) {o : Option (ℕ × ℕ)} (O : SetsBlock t n d s o) where
      -- the second block, where the first one ends
      second : {a : Instr Plain} {j : ℕ} (w : Chosen a j) → BlockHere t n d w.here.c j
      second w = rw (block_set G w.yes e).1 w.no

      -- a variable of it is not set
      pub else_unset : o ≡ None → SetsInstr t i d s None
      else_unset q = instr_fails λ a j h.
          let w : Chosen a j = chosen a j h in
          ap (after_i (bits s)) w.here.is ∙ rw (w.test, (block_set G w.yes e).0, block_unset O (second w) q)

      -- all are
      pub sets_if : {z v : ℕ} → o ≡ Some (z, v) → SetsInstr t i d s (Some (z, bit_and u v))
      sets_if {z} {v} r = instr_sets (omega (arith, F.ahead k q, G.ahead n u e, O.ahead z v r)) λ a j h.
          let w : Chosen a j = chosen a j h in
          let some : (after (bits s) w.here.c ≡ is (bits v)) × (z ≡ j) = block_set O (second w) r in
          (ap (after_i (bits s)) w.here.is ∙ rw (w.test, (block_set G w.yes e).0, some.0, bits_both u v), some.1)

  -- "26 block"
  pub sets_atomic : {r : Option (ℕ × ℕ)} → get_or t i 0 ≡ 0x26 → SetsBlock t (i + 1) d s r → SetsInstr t i d s r
  sets_atomic {r} m G = record { ahead = λ j u e. omega (arith, G.ahead j u e); gives = gives }
    where
      gives : (a : Instr Plain) (j : ℕ) → InstrHere t i d a j → outcome r ≡ reached (after_i (bits s) a) j
      gives a j h =
          let here : AtomicAt t i d a j = atomic_here h.at m in
          G.gives here.b j (inner h here.body (rw here.is at h.names)) ∙ ap (λ a. reached (after_i (bits s) a) j) (sym here.is)

  -- the others
  pub sets_plain : {r : Option (ℕ × ℕ)} → (get_or t i 0 ≡ 0x23 → ⊥) → (get_or t i 0 ≡ 0x24 → ⊥) → (get_or t i 0 ≡ 0x26 → ⊥) → SetsPlain t i s r → SetsInstr t i d s r
  sets_plain q₃ q₄ q₆ S = S.sets q₃ q₄ q₆ d

-- ---- blocks

-- what is answered from k on, where u is set, is the answer from i on
pub record SetsFrom (t : List ℕ) (i d s k u : ℕ) : Type 0 where
  pub ahead : i ≤ k
  pub back : (r : Option (ℕ × ℕ)) → SetsBlock t k d u r → SetsBlock t i d s r

-- a block of which nothing stands there
no_block : {t : List ℕ} {i d s : ℕ} → ((b : Block Plain) (j : ℕ) → BlockAt t i d b j → ⊥) → SetsBlock t i d s None
no_block none = record { ahead = λ j u e. unset e; gives = λ b j h. absurd (none b j h.at) }

module _ (t : List ℕ) (i d s : ℕ) where
  -- no depth
  pub block_none : d ≡ 0 → SetsBlock t i d s None
  block_none z = no_block λ b j h. omega (arith, block_deep h)

  -- the first instruction
  pub block_start : SetsFrom t i d s i s
  block_start = record { ahead = omega arith; back = λ r h. h }

  module _ {k u : ℕ} (from : SetsFrom t i d s k u) where
    -- the byte 00
    pub block_end : get_or t k 0 ≡ 0x00 → SetsBlock t i d s (Some (k + 1, u))
    block_end m = from.back (Some (k + 1, u)) (record { ahead = λ j v e. omega (arith, set_inj e); gives = gives })
      where
        gives : (b : Block Plain) (j : ℕ) → BlockHere t k d b j → is (bits u, k + 1) ≡ reached (after (bits u) b) j
        gives b j h =
            let ends : (b ≡ end) × (j ≡ k + 1) = end_here h.at m in
            sym (ap (λ b. reached (after (bits u) b) j) ends.0 ∙ rw ends.1)

    -- no bytes are left
    pub block_past : length t ≤ k → SetsBlock t i d s None
    block_past w = from.back None (no_block λ b j h. omega (arith, block_inside h))

    -- the first instruction, and the rest of the block
    record Stepped (b : Block Plain) (j : ℕ) : Type 0 where
      here : StepAt t k d b j
      first : InstrHere t k (d - 1) here.s here.k
      rest : BlockHere t here.k d here.rest j

    -- where no byte 00 stands
    stepped : (get_or t k 0 ≡ 0x00 → ⊥) → (b : Block Plain) (j : ℕ) → BlockHere t k d b j → Stepped b j
    stepped m b j h =
        let here : StepAt t k d b j = step_here h.at m in
        let names : Names h.program h.locals (step here.tag here.s here.rest) = rw here.is at h.names in
        record {
          here = here;
          first = record { program = h.program; locals = h.locals; few = h.few; at = here.here; names = names.0 };
          rest = record { program = h.program; locals = h.locals; few = h.few; at = here.after; names = names.1 };
        }

    module _ {f : Option (ℕ × ℕ)} (m : get_or t k 0 ≡ 0x00 → ⊥) (F : SetsInstr t k (d - 1) u f) where
      -- an instruction that mentions a variable which is not set
      pub block_cut : f ≡ None → SetsBlock t i d s None
      block_cut w = from.back None (record { ahead = λ j v e. unset e; gives = gives })
        where
          gives : (b : Block Plain) (j : ℕ) → BlockHere t k d b j → nothing ≡ reached (after (bits u) b) j
          gives b j h =
              let y : Stepped b j = stepped m b j h in
              let none : after_i (bits u) y.here.s ≡ nothing =
              reached_not _ y.here.k (ap outcome (sym w) ∙ F.gives y.here.s y.here.k y.first)
              in
              sym (ap (λ b. reached (after (bits u) b) j) y.here.is ∙ rw none)

      -- any other
      pub block_next : {n v : ℕ} → f ≡ Some (n, v) → SetsFrom t i d s n v
      block_next {n} {v} w = record {
        ahead = omega (arith, from.ahead, F.ahead n v w);
        back = λ r h. from.back r (record { ahead = λ j o e. omega (arith, h.ahead j o e, F.ahead n v w); gives = gives r h });
      }
        where
          gives : (r : Option (ℕ × ℕ)) → SetsBlock t n d v r → (b : Block Plain) (j : ℕ) → BlockHere t k d b j → outcome r ≡ reached (after (bits u) b) j
          gives r h b j x =
              let y : Stepped b j = stepped m b j x in
              let some : (after_i (bits u) y.here.s ≡ is (bits v)) × (n ≡ y.here.k) =
              reached_is _ y.here.k (ap outcome (sym w) ∙ F.gives y.here.s y.here.k y.first)
              in
              let rest : BlockHere t n d y.here.rest j = rw some.1 y.rest in
              h.gives y.here.rest j rest ∙ sym (ap (λ b. reached (after (bits u) b) j) y.here.is ∙ rw some.0)

-- so the loop over a block ends
pub instr_falls : {f : Option (ℕ × ℕ)} (t : List ℕ) (d s i n u : ℕ) → i < length t → f ≡ Some (n, u) → SetsInstr t i d s f → length t - n < length t - i
instr_falls t d s i n u l e F = omega (arith, F.ahead n u e)

-- ---- procedures

-- what is set behind procedure m
abbrev behind : ℕ → Program Plain → Maybe Known
behind m p = after (λ x. ltb x (proc_of p m).params) (proc_of p m).body

-- rule 8, of procedure m
unfoldable pub proc_set : ℕ → Program Plain → Bool
proc_set m p = there (after (λ x. ltb x (proc_of p m).params) (proc_of p m).body)

module _ (t : List ℕ) (P R m : ℕ) where
  -- the code's numbers of procedure m: where its body begins, its parameters, as a set, and the outcome
  module _ {a x v : ℕ} {f : Option (ℕ × ℕ)} (l : m < P) (ex : x ≡ get_or t (R + record_size * m) 0) (ev : v ≡ below x)
      (ea : BodyStarts t P R m a) (F : SetsBlock t a max_nesting v f) where
    -- procedure m is walked
    walked : (p : Program Plain) → Named t P R p → outcome f ≡ reached (behind m p) (body_at p.procs (m + 1))
    walked p named =
        let laid : Laid t P R p = named.laid in
        let right : ProcNamed p m = proc_named_lem named l in
        let params : x ≡ (proc_of p m).params = ex ∙ params_at laid l in
        let few : (proc_of p m).params < 64 = omega (arith, right.params, right.locals) in
        let entry : bits v ≡ (λ y. ltb y (proc_of p m).params) = rw (ev, params) (bits_below (proc_of p m).params few) in
        let body : BlockHere t a max_nesting (proc_of p m).body (body_at p.procs (m + 1)) =
        record {
          program = p;
          locals = (proc_of p m).locals;
          few = omega (arith, right.locals);
          at = rw (ea.gives p laid) (body_here laid l);
          names = right.names;
        }
        in
        F.gives (proc_of p m).body (body_at p.procs (m + 1)) body
        ∙ ap (λ s. reached (after s (proc_of p m).body) (body_at p.procs (m + 1))) entry

    -- and is right
    pub body_sets : {n u : ℕ} → f ≡ Some (n, u) → Judges (Named t P R) (proc_set m) true
    unfolding proc_set
    body_sets e = record {
      gives = λ p named. sym (ap there (reached_is (behind m p) (body_at p.procs (m + 1)) (ap outcome (sym e) ∙ walked p named)).0);
    }

    -- or not
    pub body_unset : f ≡ None → Judges (Named t P R) (proc_set m) false
    unfolding proc_set
    body_unset e = record {
      gives = λ p named. sym (ap there (reached_not (behind m p) (body_at p.procs (m + 1)) (ap outcome (sym e) ∙ walked p named)));
    }

    -- by whether it has an outcome
    pub body_judged : {b : Bool} → b ≡ is_some f → Judges (Named t P R) (proc_set m) b
    body_judged e = rw e (by f refl)
      where
        by : (o : Option (ℕ × ℕ)) → f ≡ o → Judges (Named t P R) (proc_set m) (is_some o)
        by (Some (n, u)) e = body_sets e
        by None e = body_unset e

module _ (t : List ℕ) (P R : ℕ) where
  -- the procedures before m
  abbrev pub Before : ℕ → Type 0
  Before m = Passed (Named t P R) proc_set m

  -- none yet
  pub procs_start : Before 0
  procs_start = none_passed (Named t P R) proc_set

  -- one more
  pub procs_next : {m : ℕ} {r : Bool} → Before m → Judges (Named t P R) (proc_set m) r → B.not r ≡ false → Before (m + 1)
  procs_next {r = r} s j e = one_passed s j (not-false r e)

  -- rule 8, of a procedure
  abbrev test : Program Plain → Proc Plain → Bool
  test p q = there (after (λ x. ltb x q.params) q.body)

  -- one fails
  pub procs_bad : {m : ℕ} {r : Bool} → m < P → Judges (Named t P R) (proc_set m) r → B.not r ≡ true → Judges (Named t P R) set_first false
  unfolding proc_set
  procs_bad {r = r} l j e = failed_one test (λ p g. g.laid.procs) j l (not-true r e)

  -- all pass
  pub procs_done : {m : ℕ} → Before m → P ≤ m → Judges (Named t P R) set_first true
  unfolding proc_set
  procs_done s l = passed_all test (λ p g. g.laid.procs) s l

-- one law for each way through an instruction and a block
pub ruleset ways = (
  set_bit,
  far_bit,
  settled_at,
  settled_nothing,
  sets_assign,
  sets_write,
  not_write,
  sets_read,
  not_read,
  sets_call,
  sets_select,
  no_plain,
  while_cut,
  while_unset,
  sets_while,
  if_cut,
  then_unset,
  else_unset,
  sets_if,
  sets_atomic,
  sets_plain,
  block_none,
  block_start,
  block_end,
  block_cut,
  block_next,
  block_past,
  instr_falls,
)

-- and through a procedure
pub ruleset proc_ways = (low_bits, no_bits, some_bit, body_judged, procs_start, procs_next, procs_bad, procs_done)
