-- The prices of a label, and the call: its refusals, and the labels that there are not.
use Prim.Native.Nat.{ℕ, zero, suc, ◌+◌, ◌*◌, ◌-◌, ◌≤◌, ◌<◌}
use native.Mathlib.Omega.{arith}
use mathlib.Core.Path.{◌≡◌, refl, sym, ap, ap₂, subst, ◌∙◌}
use mathlib.Core.List.{List, [], ◌∷◌, ◌++◌, map}
use mathlib.Core.Bool.{true}
use mathlib.Core.Logic.{◌⊎◌, inl, inr}
use mir.Syntax.{w8}
use mir.Val.{Fits}
use Rattle.std.specs.Prelude.{Result, Ok, Err, None}
use lib.ListN.{length, get_or, length-map}
use lib.Dec.{ltb}
use borrow.Author.Tests.{ltb-true}
use Rattle.value.specs.Maybe.{Maybe, is, nothing, both}
use Rattle.value.specs.Lists.{at}
use Rattle.value.specs.Lists as L
use Rattle.value.specs.declared.Value.TheVariants.{Whole, Location, Truth}
use Rattle.value.proofs.Laws.Bytes.{bytes_at}
use Rattle.value.proofs.Laws.Lists.{Each}
use Rattle.value.proofs.Laws.Maybes.{is_inj, missing}
use Rattle.value.proofs.Laws.Tests.{both_passed}
use Rattle.format.specs.Syntax.{Expr, constant, local, one, two}
use Rattle.format.specs.Syntax.{Instr, assign, write, read, while, if, call, atomic, select, Block, end, step, ◌⊕◌, Proc, Program, Plain, concurrent}
use Rattle.format.specs.Encode.{expr, instr, block, table}
use Rattle.format.specs.Labels.{count, counts, label, labels, labelled}
use Rattle.format.specs.Rules.{Verdict, refused, accepted, verdict, max_locals, in_expr, takes, named, named_i, allowed}
use Rattle.format.specs.Calls.{read_as, read_call}
use Rattle.format.specs.declared.ReadAnswer.{ReadAnswer}
use Rattle.format.proofs.Laws.Names.{InRange, names?}
use Rattle.format.proofs.Laws.Sound.{Sound}
use Rattle.format.proofs.Laws.Formed.{Formed}
use Rattle.format.proofs.Laws.Accepted.{accepted_exactly, sound_formed}
use Rattle.format.proofs.Laws.Refusals.{refused_within}
use Rattle.format.proofs.Laws.Procs.{body_in, ProcSound, proc_sound}
use Rattle.format.proofs.Laws.Labelled.{named_label, allowed_label}
use Rattle.format.proofs.Laws.Variables.{variables_most}
use Rattle.format.proofs.Laws.Grammar.{BlockAt, block_inside}
use Rattle.format.specs.Decode.{max_nesting}
use Rattle.labels.specs.LabelMap.{Node, node_of, nodes, held, all_nodes}
use Rattle.labels.specs.Walks.{BodiesIn, MapsLabels}
use Rattle.labels.specs.Laws.LabelMap.{NodeOf, node_of_lem, node_there, length_nodes}
use Rattle.labels.specs.Laws.Spots.{spot_has, allowed_inherited}
use Rattle.labels.specs.Laws.Walked.{named_inherited, bodies_in, node_block}
use Rattle.basics.specs.Refusals.{refusal_number}
use Rattle.basics.specs.declared.refusals.Refusal.{Refusal}
use Rattle.basics.specs.declared.refusals.Refusal.TheVariants.{Trailer, Counts, Records, Bodies, Names, Labels, Cycle, Unset, TooLong, NoRoom, Schedule, NoCells, Allotments, NoChoice, Choices, NotOurs}
use Rattle.reader.specs.Answers as Reader
use Rattle.reader.specs.declared.verdict.Counts as Read
use Rattle.prices.specs.Answers.{answer_with, answer_of}
use Rattle.agreement.specs.Price.{vars}
use Rattle.agreement.specs.Prices.{Prices, inside, inside_i, step_prices, all, prices_at, answered, prices_as, prices_call}
use Rattle.agreement.specs.Prices as Prices
use Rattle.prices.specs.Costs.{StepIn, code_prices, CostsStep, LabelIn}
use Rattle.prices.specs.declared.costs.Cost.{Cost}

-- ---- the list of prices is that of the map's nodes

-- all of two rows
map_append : {A B : Type 0} (f : A → B) (xs ys : List A) → map f (xs ++ ys) ≡ map f xs ++ map f ys
map_append f [] ys = refl
map_append f (x ∷ xs) ys = ap (f x ∷◌) (map_append f xs ys)

module _ (m n : ℕ) (f : Node → Prices) (is-so : (d : Node) → d.proc ≡ m → f d ≡ code_prices n d.code) where
  mutual
    -- those inside an instruction with label l that code c follows
    held_nodes : (j : Instr ℕ) (i l : ℕ) (c : Block ℕ) → Prices.held n j ≡ map f (held m i l j c)
    held_nodes (assign x e) i l c = refl
    held_nodes (write y o e) i l c = refl
    held_nodes (read x y o) i l c = refl
    held_nodes (while e b) i l c = each_nodes b (i + 1 + length (expr e)) (step l (while e b) c)
    held_nodes (if e b d) i l c =
        ap₂ ◌++◌ (each_nodes b (i + 1 + length (expr e)) c) (each_nodes d (i + 1 + length (expr e) + length (block b)) c)
        ∙ sym (map_append f (nodes m (i + 1 + length (expr e)) b c) (nodes m (i + 1 + length (expr e) + length (block b)) d c))
    held_nodes (call q es) i l c = refl
    held_nodes (atomic b) i l c = refl
    held_nodes (select a b) i l c = refl

    -- those of a block
    each_nodes : (b : Block ℕ) (i : ℕ) (c : Block ℕ) → Prices.each n b ≡ map f (nodes m i b c)
    each_nodes end i c = refl
    each_nodes (step l j b) i c =
        ap₂ ◌∷◌ (sym (is-so (record { place = i; proc = m; code = step l j (b ⊕ c) }) refl))
        (ap₂ ◌++◌ (held_nodes j i l (b ⊕ c)) (each_nodes b (i + length (instr j)) c)
        ∙ sym (map_append f (held m i l j (b ⊕ c)) (nodes m (i + length (instr j)) b c)))

-- the locals of procedure m, if there is one
abbrev locals_at : {A : Type 0} → Maybe (Proc A) → ℕ
locals_at (is q) = q.locals
locals_at nothing = 0

-- the prices of a node
abbrev node_prices : Program Plain → Node → Prices
node_prices p d = code_prices (locals_at (at p.procs d.proc)) d.code

module _ (f : Node → Prices) (L : ℕ → ℕ) (is-so : (d : Node) → f d ≡ code_prices (L d.proc) d.code) where
  -- those of procedures from m on
  all_nodes_lem : (ps : List (Proc ℕ)) (m i : ℕ) → ((j : ℕ) → L (m + j) ≡ locals_at (at ps j)) → all ps ≡ map f (all_nodes m i ps)
  all_nodes_lem [] m i h = refl
  all_nodes_lem (p ∷ ps) m i h =
      let here : L m ≡ p.locals = ap L (omega arith) ∙ h 0 in
      let next : ℕ = i + length (block p.body) in
      let so : (d : Node) → d.proc ≡ m → f d ≡ code_prices p.locals d.code =
      λ d e. is-so d ∙ ap (λ (z : ℕ). code_prices (L z) d.code) e ∙ ap (λ (z : ℕ). code_prices z d.code) here
      in
      ap₂ ◌++◌ (each_nodes m p.locals f so p.body i end)
      (ap₂ ◌∷◌ (sym (so (record { place = next - 1; proc = m; code = end }) refl))
      (all_nodes_lem ps (suc m) next (λ j. ap L (omega arith) ∙ h (suc j))))
      ∙ sym (map_append f (nodes m i p.body end) (record { place = next - 1; proc = m; code = end } ∷ all_nodes (suc m) next ps))

-- labels do not matter to the locals
locals_labels : (ps : List (Proc Plain)) (l j : ℕ) → locals_at (at ps j) ≡ locals_at (at (labels l ps) j)
locals_labels [] l j = refl
locals_labels (p ∷ ps) l zero = refl
locals_labels (p ∷ ps) l (suc j) = locals_labels ps (l + suc (count p.body)) j

-- the prices of all labels, by the map's nodes
all_prices : (p : Program Plain) → all (labelled p).procs ≡ map (node_prices p) (all_nodes 0 0 (labelled p).procs)
all_prices p =
    all_nodes_lem (node_prices p) (λ m. locals_at (at p.procs m)) (λ d. refl) (labelled p).procs 0 0
    (λ j. ap (λ (m : ℕ). locals_at (at p.procs m)) (omega arith) ∙ locals_labels p.procs 1 j)

-- those of a label that there is
prices_node : (p : Program Plain) (l : ℕ) {d : Node} → node_of p l ≡ is d → prices_at p l ≡ is (node_prices p d)
prices_node p zero e = missing e
prices_node p (suc l) e = ap (λ (xs : List Prices). at xs l) (all_prices p) ∙ at_map (node_prices p) (all_nodes 0 0 (labelled p).procs) l e
  where
    at_map : {A B : Type 0} (f : A → B) (xs : List A) (i : ℕ) {x : A} → at xs i ≡ is x → at (map f xs) i ≡ is (f x)
    at_map f [] i e = missing e
    at_map f (y ∷ xs) zero e = ap (λ z. is (f z)) (is_inj e)
    at_map f (y ∷ xs) (suc i) e = at_map f xs i e

-- those past the last
prices_past : (p : Program Plain) (l : ℕ) → counts p.procs < l → prices_at p l ≡ nothing
prices_past p zero h = absurd (omega arith)
prices_past p (suc l) h =
    at_past (all (labelled p).procs) l
    (omega (arith, ap length (all_prices p), length-map (all_nodes 0 0 (labelled p).procs) (node_prices p), length_nodes p))
  where
    at_past : {A : Type 0} (xs : List A) (i : ℕ) → length xs ≤ i → at xs i ≡ nothing
    at_past [] i h = refl
    at_past (x ∷ xs) zero h = absurd (omega arith)
    at_past (x ∷ xs) (suc i) h = at_past xs i (omega arith)

-- ---- k among all sixteen is k among the procedure's locals

-- an expression's locals are in range
in_range : (X M : ℕ) (e : Expr) → in_expr X M e ≡ true → InRange X M e
in_range X M (constant (Whole z)) h = tt
in_range X M (constant (Location l)) h = ltb-true l M h
in_range X M (constant (Truth b)) h = tt
in_range X M (local x) h = ltb-true x X h
in_range X M (one o a) h = in_range X M a h
in_range X M (two o a b) h =
    let w = both_passed (in_expr X M a) (in_expr X M b) h in
    (in_range X M a w.0, in_range X M b w.1)

-- of several
all_in_range : (X M : ℕ) (es : List Expr) → L.all (in_expr X M) es ≡ true → Each (InRange X M) es
all_in_range X M [] h = tt
all_in_range X M (e ∷ es) h =
    let w = both_passed (in_expr X M e) (L.all (in_expr X M) es) h in
    (in_range X M e w.0, all_in_range X M es w.1)

module _ (p : Program ℕ) (X : ℕ) (few : X ≤ max_locals) where
  -- how many locations there are
  abbrev M : ℕ
  M = length p.sizes

  -- k
  same_vars : (es : List Expr) → L.all (in_expr X M) es ≡ true → vars X es ≡ vars max_locals es
  same_vars es h = ap length (sym (variables_most X M es (all_in_range X M es h) few))

  -- of one expression
  same_var : (e : Expr) → in_expr X M e ≡ true → vars X (e ∷ []) ≡ vars max_locals (e ∷ [])
  same_var e h = same_vars (e ∷ []) (rw h)

  mutual
    -- inside an atomic block
    same_inner : (i : Instr ℕ) → named_i p X i ≡ true → inside_i X i ≡ inside_i max_locals i
    same_inner (assign x e) h = rw (same_var e (both_passed (ltb x X) (in_expr X M e) h).1)
    same_inner (write y o e) h =
        let v = both_passed (ltb y X) (both (in_expr X M o) (in_expr X M e)) h in
        let u = both_passed (in_expr X M o) (in_expr X M e) v.1 in
        rw (same_var o u.0, same_var e u.1)
    same_inner (read x y o) h =
        let v = both_passed (ltb x X) (both (ltb y X) (in_expr X M o)) h in
        rw (same_var o (both_passed (ltb y X) (in_expr X M o) v.1).1)
    same_inner (while e b) h = refl
    same_inner (if e b c) h =
        let v = both_passed (in_expr X M e) (both (named p X b) (named p X c)) h in
        let u = both_passed (named p X b) (named p X c) v.1 in
        rw (same_var e v.0, same_inside b u.0, same_inside c u.1)
    same_inner (call m es) h = refl
    same_inner (atomic b) h = refl
    same_inner (select x y) h = refl

    -- of a block
    same_inside : (b : Block ℕ) → named p X b ≡ true → inside X b ≡ inside max_locals b
    same_inside end h = refl
    same_inside (step a i b) h =
        let v = both_passed (named_i p X i) (named p X b) h in
        rw (same_inner i v.0, same_inside b v.1)

  -- of a step
  same_step : (i : Instr ℕ) → named_i p X i ≡ true → step_prices X i ≡ step_prices max_locals i
  same_step (assign x e) h = rw (same_var e (both_passed (ltb x X) (in_expr X M e) h).1)
  same_step (write y o e) h =
      let v = both_passed (ltb y X) (both (in_expr X M o) (in_expr X M e)) h in
      let u = both_passed (in_expr X M o) (in_expr X M e) v.1 in
      rw (same_var o u.0, same_var e u.1)
  same_step (read x y o) h =
      let v = both_passed (ltb x X) (both (ltb y X) (in_expr X M o)) h in
      rw (same_var o (both_passed (ltb y X) (in_expr X M o) v.1).1)
  same_step (while e b) h = rw (same_var e (both_passed (in_expr X M e) (named p X b) h).0)
  same_step (if e b c) h = rw (same_var e (both_passed (in_expr X M e) (both (named p X b) (named p X c)) h).0)
  same_step (call m es) h = rw (same_vars es (both_passed (takes p.procs m (length es)) (L.all (in_expr X M) es) h).1)
  same_step (atomic b) h = rw (same_inside b h)
  same_step (select x y) h = refl

  -- of code that remains
  same_code : (b : Block ℕ) → named p X b ≡ true → code_prices X b ≡ code_prices max_locals b
  same_code end h = refl
  same_code (step a i b) h = same_step i (both_passed (named_i p X i) (named p X b) h).0

-- ---- a label of an accepted table

-- a labelled procedure, and the procedure itself
proc_found : (ps : List (Proc Plain)) (l m : ℕ) {g : Proc ℕ} → at (labels l ps) m ≡ is g
    → (o : Proc Plain) × (k : ℕ) × (at ps m ≡ is o) × (g.body ≡ label k o.body)
proc_found [] l m e = missing e
proc_found (p ∷ ps) l zero e = (p, l, refl, ap (λ (q : Proc ℕ). q.body) (sym (is_inj e)))
proc_found (p ∷ ps) l (suc m) e = proc_found ps (l + suc (count p.body)) m e

-- what remains begins with what is left of its block
code_left : (n : ℕ) (b c : Block ℕ) → (b ≡ end → c ≡ end) → code_prices n (b ⊕ c) ≡ code_prices n b
code_left n end c h = ap (code_prices n) (h refl)
code_left n (step a i b) c h = refl

module _ {t : List ℕ} {c l : ℕ} (H : LabelIn t c l) where
  -- the program
  abbrev p : Program Plain
  p = H.program

  -- it was read
  formed : Formed concurrent t p
  formed = subst (λ (x : List ℕ). Formed concurrent x p) (sym H.same) (sound_formed concurrent p H.sound)

  -- so its labels can be filled in
  pub label_bodies : BodiesIn t 0 c
  label_bodies = rw H.procs (bodies_in formed)

  module _ {map bounds : List ℕ} {r : ℕ} (F : MapsLabels t c map bounds r) where
    -- the node of the label
    node : (d : Node) × (node_of p l ≡ is d)
    node = node_there p l H.low H.high

    -- its procedure
    abbrev m : ℕ
    m = node.0.proc

    -- what the map says of it
    there : NodeOf p l node.0
    there = node_of_lem p l node.1

    found : (o : Proc Plain) × (k : ℕ) × (at p.procs m ≡ is o) × (there.spot.proc.body ≡ label k o.body)
    found = proc_found p.procs 1 m there.spot.found

    place : get_or map (4 * l) 0 ≡ node.0.place
    place = (F.gives p formed (sym H.procs) H.sound.labels).0.place l node.0 node.1

    -- its code stands there
    stands : BlockAt t (get_or map (4 * l) 0) max_nesting there.left (node.0.place + length (block there.left))
    unfolding there
    stands = rw place (node_block formed l node.1)

    -- and may stand there
    right : ProcSound concurrent p m found.0
    right = proc_sound H.sound m found.0 found.2

    may : allowed (body_in concurrent m) there.left ≡ true
    may =
        spot_has (allowed_inherited (body_in concurrent m)) there.spot.spot
        (subst (λ (b : Block ℕ). allowed (body_in concurrent m) b ≡ true) (sym found.3)
        (allowed_label p found.0.body found.1 (body_in concurrent m) ∙ right.allowed))

    -- its names mean something
    means : named (labelled p) found.0.locals there.left ≡ true
    means =
        spot_has (named_inherited (labelled p) found.0.locals) there.spot.spot
        (subst (λ (b : Block ℕ). named (labelled p) found.0.locals b ≡ true) (sym found.3)
        (named_label p found.0.body found.1 found.0.locals ∙ (names? p found.0.locals found.0.body).of right.named))

    -- the step there
    pub label_step : StepIn t (get_or map (4 * l) 0)
    label_step = record {
      block = there.left;
      next = _;
      there = stands;
      proc = m;
      may = may;
      start = omega (arith, (block_inside stands).0, (block_inside stands).1);
      short = omega (arith, ap length H.same, H.sound.size);
    }

    -- the prices of the label
    pub label_priced : {x : Cost} → CostsStep t (get_or map (4 * l) 0) x
        → answer_with x ≡ prices_call t l
    label_priced {x} X =
        let locals : locals_at (at p.procs m) ≡ found.0.locals = ap locals_at found.2 in
        let own : node_prices p node.0 ≡ code_prices max_locals there.left =
        ap₂ code_prices locals there.code ∙ code_left found.0.locals there.left there.after there.ends
        ∙ same_code (labelled p) found.0.locals right.locals there.left means
        in
        let cost : x ≡ record { least = (code_prices max_locals there.left).least; most = (code_prices max_locals there.left).most } =
        X.gives m there.left _ stands may
        in
        let answer : prices_call t l ≡ answered 0 (is (code_prices max_locals there.left)) =
        ap (λ (v : Verdict). prices_as v l) H.verdict ∙ ap (answered 0) (prices_node p l node.1 ∙ ap is own)
        in
        ap answer_with cost ∙ sym answer

pub ruleset label_ways = (label_bodies, label_step, label_priced)

-- ---- the call

-- no reason has the number 0
some_number : (e : Refusal) → 1 ≤ refusal_number e
some_number Trailer = omega arith
some_number Counts = omega arith
some_number Records = omega arith
some_number Bodies = omega arith
some_number Names = omega arith
some_number Labels = omega arith
some_number Cycle = omega arith
some_number Unset = omega arith
some_number TooLong = omega arith
some_number NoRoom = omega arith
some_number Schedule = omega arith
some_number NoCells = omega arith
some_number Allotments = omega arith
some_number NoChoice = omega arith
some_number Choices = omega arith
some_number NotOurs = omega arith

module _ (t : List ℕ) {f : Result Read.Counts Refusal} (same : Reader.answer_of f ≡ read_call concurrent t) where
  -- 1 to 8
  pub prices_refused : (l : ℕ) {e : Refusal} → f ≡ Err e → answer_of (Err e) ≡ prices_call t l
  prices_refused l {e} why = by (verdict concurrent t) refl
    where
      told : Reader.answer_of (Err e) ≡ read_call concurrent t
      told = ap Reader.answer_of (sym why) ∙ same

      by : (v : Verdict) → verdict concurrent t ≡ v → answer_of (Err e) ≡ prices_call t l
      by (refused n) q =
          let number : refusal_number e ≡ n = ap (λ (x : ReadAnswer). x.number) told ∙ ap (λ (v : Verdict). (read_as concurrent v).number) q in
          ap (λ (z : ℕ). answered z nothing) number ∙ sym (ap (λ (v : Verdict). prices_as v l) q)
      by (accepted p) q =
          absurd (omega (arith, some_number e, ap (λ (x : ReadAnswer). x.number) told, ap (λ (v : Verdict). (read_as concurrent v).number) q))

  module _ {c : Read.Counts} (ok : f ≡ Ok c) where
    counts_told : Reader.answer_of (Ok c) ≡ read_call concurrent t
    counts_told = ap Reader.answer_of (sym ok) ∙ same

    -- the program that was accepted
    program : (p : Program Plain) × (verdict concurrent t ≡ accepted p)
    program = by (verdict concurrent t) refl
      where
        by : (v : Verdict) → verdict concurrent t ≡ v → (p : Program Plain) × (verdict concurrent t ≡ accepted p)
        by (refused n) q =
            let number : 0 ≡ n = ap (λ (x : ReadAnswer). x.number) counts_told ∙ ap (λ (v : Verdict). (read_as concurrent v).number) q in
            absurd (omega (arith, number, (refused_within concurrent t n q).low))
        by (accepted p) q = (p, q)

    -- and its reader's answer
    read_is : Reader.answer_of (Ok c) ≡ read_as concurrent (accepted program.0)
    read_is = counts_told ∙ ap (read_as concurrent) program.1

    -- no label: the answer has zeros. "0 is a finished thread"
    pub prices_absent : (l : ℕ) → (l ≡ 0) ⊎ ((l ≡ 0 → ⊥) × (c.labels < l)) → answer_of (Ok None) ≡ prices_call t l
    prices_absent l none = sym (ap (λ (v : Verdict). prices_as v l) program.1 ∙ ap (answered 0) (past none))
      where
        past : (l ≡ 0) ⊎ ((l ≡ 0 → ⊥) × (c.labels < l)) → prices_at program.0 l ≡ nothing
        past (inl z) = ap (prices_at program.0) z
        past (inr h) = prices_past program.0 l (omega (arith, h.1, ap (λ (x : ReadAnswer). x.labels) read_is))

    -- a label that there is
    pub prices_label : ((i : ℕ) → Fits w8 (get_or t i 0)) → (l : ℕ) → (l ≡ 0 → ⊥) → l ≤ c.labels → LabelIn t c.procedures l
    prices_label bytes l some h =
        let both : (t ≡ table concurrent program.0) × Sound concurrent program.0 =
        (accepted_exactly concurrent t (bytes_at t (λ i l. (bytes i).fits)) program.0).0 program.1
        in
        let labels : c.labels ≡ counts program.0.procs = ap (λ (x : ReadAnswer). x.labels) read_is in
        record {
          program = program.0;
          verdict = program.1;
          same = both.0;
          sound = both.1;
          procs = ap (λ (x : ReadAnswer). x.procedures) read_is;
          low = omega (arith, some);
          high = omega arith;
          few = omega (arith, both.1.labels);
        }

pub ruleset call_ways = (prices_refused, prices_absent)
