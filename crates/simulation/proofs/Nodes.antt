-- What the label map says of the source's code, and the copy's procedures as those of the map's nodes.
use Prim.Native.Nat.{ℕ, zero, suc, ◌+◌, ◌-◌}
use native.Mathlib.Omega.{arith}
use mathlib.Core.Path.{◌≡◌, refl, sym, ap, ap₂, ◌∙◌}
use mathlib.Core.List.{List, [], ◌∷◌, ◌++◌, map}
use mathlib.Core.Bool.{true, false}
use lib.ListN.{length, length-map}
use lib.Dec.{ltb}
use borrow.Author.Tests.{ltb-true}
use Rattle.value.specs.Maybe.{is, both}
use Rattle.value.specs.Lists.{at, all}
use Rattle.value.proofs.Laws.Tests.{both_passed, never}
use Rattle.value.proofs.Laws.Lists.{Each, at_below}
use Rattle.value.proofs.Laws.Maybes.{is_inj, missing}
use Rattle.format.specs.Syntax.{Expr, constant, local, one, two, Instr, assign, write, read, while, if, call, atomic, select, Block, end, step, ◌⊕◌}
use Rattle.format.specs.Syntax.{Proc, Program, Plain, concurrent}
use Rattle.format.specs.Encode.{expr, instr, block}
use Rattle.format.specs.Labels.{first, count, counts, labels, labelled}
use Rattle.format.specs.Rules.{Here, in_expr, takes, named, named_i, allowed, allowed_i}
use Rattle.labels.specs.LabelMap.{Node, node_of, nodes, held, all_nodes}
use Rattle.format.proofs.Laws.Fits.{BlockFits, InstrFits}
use Rattle.format.proofs.Laws.Names.{takes?}
use Rattle.format.proofs.Laws.Procs.{takes_at}
use Rattle.labels.specs.Laws.Spots.{Inherited}
use Rattle.labels.specs.Laws.LabelMap.{length_nodes}
use Rattle.translation.specs.Layout.{Layout, layout_in, locals_of}
use Rattle.translation.specs.Code.{code}
use Rattle.translation.specs.Translate.{simulating, held_by, simulations, ends_of, begins, later_in}
use Rattle.translation.specs.Translate as T
use Rattle.emit.specs.Laws.Sources.{Low, InPlaceI, InPlace}
use Rattle.translation.specs.declared.Mode.{Mode}
use Rattle.simulation.specs.Laws.Bodies.{OfLabel, label_code, simulated}

-- what fits a block fits its spots
pub fits_inherited : {A : Type 0} (d : ℕ) → Inherited {A = A} (BlockFits d) (InstrFits d)
fits_inherited d = record {
  first = λ a j b h. (omega (arith, h.0), h.1.0);
  rest = λ a j b h. (omega (arith, h.0), h.1.1);
  loop = λ e b h. (h.0, h.1.1);
  yes = λ e b f h. (omega (arith, h.0), h.1.1);
  no = λ e b f h. (omega (arith, h.0), h.1.2);
}

-- ---- names

-- names that mean something in a block do so at its spots
pub named_inherited : {A : Type 0} (p : Program A) (X : ℕ) → Inherited {A = A} (λ b. named p X b ≡ true) (λ j. named_i p X j ≡ true)
named_inherited p X = record {
  first = λ a j b h. (both_passed (named_i p X j) (named p X b) h).0;
  rest = λ a j b h. (both_passed (named_i p X j) (named p X b) h).1;
  loop = λ e b h. (both_passed (in_expr X (length p.sizes) e) (named p X b) h).1;
  yes = λ e b f h.
      (both_passed (named p X b) (named p X f) (both_passed (in_expr X (length p.sizes) e) (both (named p X b) (named p X f)) h).1).0;
  no = λ e b f h.
      (both_passed (named p X b) (named p X f) (both_passed (in_expr X (length p.sizes) e) (both (named p X b) (named p X f)) h).1).1;
}

-- the locals of an expression whose names mean something
low_named : (X M : ℕ) (e : Expr) → in_expr X M e ≡ true → Low X e
low_named X M (constant v) h = tt
low_named X M (local x) h = ltb-true x X h
low_named X M (one o a) h = low_named X M a h
low_named X M (two o a b) h =
    let w = both_passed (in_expr X M a) (in_expr X M b) h in
    (low_named X M a w.0, low_named X M b w.1)

-- of several
lows_named : (X M : ℕ) (es : List Expr) → all (in_expr X M) es ≡ true → Each (Low X) es
lows_named X M [] h = tt
lows_named X M (e ∷ es) h = let w = both_passed (in_expr X M e) (all (in_expr X M) es) h in (low_named X M e w.0, lows_named X M es w.1)

module _ (p : Program ℕ) (X m : ℕ) where
  -- how many locations there are
  abbrev M : ℕ
  M = length p.sizes

  -- in an atomic block of procedure m
  abbrev inner : Here
  inner = record { kind = concurrent; proc = m; inside = true }

  -- in its body
  abbrev outer : Here
  outer = record { kind = concurrent; proc = m; inside = false }

  mutual
    -- an instruction inside an atomic block
    in_place_i : (j : Instr ℕ) → named_i p X j ≡ true → allowed_i inner j ≡ true → InPlaceI X j
    in_place_i (assign x e) h a = let v = both_passed (ltb x X) (in_expr X M e) h in (ltb-true x X v.0, low_named X M e v.1)
    in_place_i (write y o e) h a =
        let v = both_passed (ltb y X) (both (in_expr X M o) (in_expr X M e)) h in
        let u = both_passed (in_expr X M o) (in_expr X M e) v.1 in
        (ltb-true y X v.0, low_named X M o u.0, low_named X M e u.1)
    in_place_i (read x y o) h a =
        let v = both_passed (ltb x X) (both (ltb y X) (in_expr X M o)) h in
        let u = both_passed (ltb y X) (in_expr X M o) v.1 in
        (ltb-true x X v.0, ltb-true y X u.0, low_named X M o u.1)
    in_place_i (while e b) h a = never a
    in_place_i (if e b d) h a =
        let v = both_passed (in_expr X M e) (both (named p X b) (named p X d)) h in
        let u = both_passed (named p X b) (named p X d) v.1 in
        let r = both_passed (allowed inner b) (allowed inner d) a in
        (low_named X M e v.0, in_place_lem b u.0 r.0, in_place_lem d u.1 r.1)
    in_place_i (call m es) h a = never a
    in_place_i (atomic b) h a = never a
    in_place_i (select x y) h a = never a

    -- of a block
    in_place_lem : (b : Block ℕ) → named p X b ≡ true → allowed inner b ≡ true → InPlace X b
    in_place_lem end h a = tt
    in_place_lem (step l j b) h a =
        let v = both_passed (named_i p X j) (named p X b) h in
        let u = both_passed (allowed_i inner j) (allowed inner b) a in
        (in_place_i j v.0 u.0, in_place_lem b v.1 u.1)

  -- an instruction that has a label
  pub of_label : (q : Program Plain) → length p.procs ≡ length q.procs → (j : Instr ℕ) → named_i p X j ≡ true → allowed_i outer j ≡ true
      → OfLabel q X j
  of_label q e (assign x a) h ok = in_place_i (assign x a) h refl
  of_label q e (write y o a) h ok = in_place_i (write y o a) h refl
  of_label q e (read x y o) h ok = in_place_i (read x y o) h refl
  of_label q e (while a b) h ok = low_named X M a (both_passed (in_expr X M a) (named p X b) h).0
  of_label q e (if a b c) h ok = low_named X M a (both_passed (in_expr X M a) (both (named p X b) (named p X c)) h).0
  of_label q e (call f es) h ok =
      let v = both_passed (takes p.procs f (length es)) (all (in_expr X M) es) h in
      let found = takes_at p.procs f (length es) ((takes? p.procs f (length es)).so v.0) in
      (omega (arith, at_below p.procs f found.1), lows_named X M es v.1)
  of_label q e (atomic b) h ok = in_place_lem b h ok
  of_label q e (select x y) h ok = never ok

-- ---- the copy's procedures are those of the map's nodes

-- the first label of one block after another
first_join : (k : ℕ) (b c : Block ℕ) → first k (b ⊕ c) ≡ first (first k c) b
first_join k end c = refl
first_join k (step l j b) c = refl

-- all of two rows
map_append : {A B : Type 0} (f : A → B) (xs ys : List A) → map f (xs ++ ys) ≡ map f xs ++ map f ys
map_append f [] ys = refl
map_append f (x ∷ xs) ys = ap (f x ∷◌) (map_append f xs ys)

module _ (G : Layout) (begin : ℕ → ℕ) (m n k : ℕ) (f : Node → Proc Plain)
    (is-so : (d : Node) → d.proc ≡ m → f d ≡ simulating n (label_code G begin m n k d.code)) where
  mutual
    -- those inside an instruction with label l that code c follows
    held_nodes : (j : Instr ℕ) (i l : ℕ) (c : Block ℕ) → held_by G begin m n j l (first k c) ≡ map f (held m i l j c)
    held_nodes (assign x e) i l c = refl
    held_nodes (write y o e) i l c = refl
    held_nodes (read x y o) i l c = refl
    held_nodes (while e b) i l c = each_nodes b (i + 1 + length (expr e)) (step l (while e b) c)
    held_nodes (if e b d) i l c =
        ap₂ ◌++◌ (each_nodes b (i + 1 + length (expr e)) c) (each_nodes d (i + 1 + length (expr e) + length (block b)) c)
        ∙ sym (map_append f (nodes m (i + 1 + length (expr e)) b c) (nodes m (i + 1 + length (expr e) + length (block b)) d c))
    held_nodes (call q es) i l c = refl
    held_nodes (atomic b) i l c = refl
    held_nodes (select a b) i l c = refl

    -- those of a block
    each_nodes : (b : Block ℕ) (i : ℕ) (c : Block ℕ) → T.each G begin m n b (first k c) ≡ map f (nodes m i b c)
    each_nodes end i c = refl
    each_nodes (step l j b) i c =
        let here : Node = record { place = i; proc = m; code = step l j (b ⊕ c) } in
        let same : first (first k c) b ≡ first k (b ⊕ c) = sym (first_join k b c) in
        ap₂ ◌∷◌ (ap (λ (z : ℕ). simulating n (code G m n begin l j z)) same ∙ sym (is-so here refl))
        (ap₂ ◌++◌ (ap (held_by G begin m n j l) same ∙ held_nodes j i l (b ⊕ c)) (each_nodes b (i + length (instr j)) c)
        ∙ sym (map_append f (held m i l j (b ⊕ c)) (nodes m (i + length (instr j)) b c)))

module _ (G : Layout) (begin ends L : ℕ → ℕ) (f : Node → Proc Plain)
    (is-so : (d : Node) → f d ≡ simulating (L d.proc) (label_code G begin d.proc (L d.proc) (ends d.proc) d.code)) where
  -- those of procedures from m on
  all_simulated : (ps : List (Proc ℕ)) (m i : ℕ) → ((j : ℕ) → L (m + j) ≡ locals_of (at ps j))
      → simulations G begin ends m ps ≡ map f (all_nodes m i ps)
  all_simulated [] m i h = refl
  all_simulated (p ∷ ps) m i h =
      let here : L m ≡ p.locals = ap L (omega arith) ∙ h 0 in
      let next : ℕ = i + length (block p.body) in
      let so : (d : Node) → d.proc ≡ m → f d ≡ simulating p.locals (label_code G begin m p.locals (ends m) d.code) =
      λ d e.
      is-so d ∙ ap (λ (z : ℕ). simulating (L z) (label_code G begin z (L z) (ends z) d.code)) e
      ∙ ap (λ (z : ℕ). simulating z (label_code G begin m z (ends m) d.code)) here
      in
      ap₂ ◌++◌ (each_nodes G begin m p.locals (ends m) f so p.body i end)
      (ap₂ ◌∷◌ (sym (so (record { place = next - 1; proc = m; code = end }) refl))
      (all_simulated ps (suc m) next (λ j. ap L (omega arith) ∙ h (suc j))))
      ∙ sym (map_append f (nodes m i p.body end) (record { place = next - 1; proc = m; code = end } ∷ all_nodes (suc m) next ps))

-- labels do not matter to the locals
locals_labels : (ps : List (Proc Plain)) (l j : ℕ) → locals_of (at ps j) ≡ locals_of (at (labels l ps) j)
locals_labels [] l j = refl
locals_labels (p ∷ ps) l zero = refl
locals_labels (p ∷ ps) l (suc j) = locals_labels ps (l + suc (count p.body)) j

-- the procedures after procedure 0, by the map's nodes
pub later_nodes : (mode : Mode) (q : Program Plain) → later_in mode q ≡ map (simulated mode q) (all_nodes 0 0 (labelled q).procs)
later_nodes mode q =
    all_simulated (layout_in mode q) (begins q) (ends_of q) (λ m. locals_of (at q.procs m)) (simulated mode q) (λ d. refl) (labelled q).procs 0 0
    (λ j. ap (λ (m : ℕ). locals_of (at q.procs m)) (omega arith) ∙ locals_labels q.procs 1 j)

-- the procedure of label k + 1
pub later_at : (mode : Mode) (q : Program Plain) (k : ℕ) {d : Node} → node_of q (suc k) ≡ is d → at (later_in mode q) k ≡ is (simulated mode q d)
later_at mode q k e = rw (later_nodes mode q) (at_map (simulated mode q) (all_nodes 0 0 (labelled q).procs) k e)
  where
    at_map : {A B : Type 0} (f : A → B) (xs : List A) (i : ℕ) {x : A} → at xs i ≡ is x → at (map f xs) i ≡ is (f x)
    at_map f [] i e = missing e
    at_map f (y ∷ xs) zero e = ap (λ z. is (f z)) (is_inj e)
    at_map f (y ∷ xs) (suc i) e = at_map f xs i e

-- as many as labels
pub length_later : (mode : Mode) (q : Program Plain) → length (later_in mode q) ≡ counts q.procs
length_later mode q = ap length (later_nodes mode q) ∙ length-map (all_nodes 0 0 (labelled q).procs) (simulated mode q) ∙ length_nodes q
