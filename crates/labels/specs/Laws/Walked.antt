-- What a table that was read gives to those who walk over it: its bodies, and the code at each position, labelled or not.
use Rattle.std.specs.Prelude.{ℕ, zero, suc, ◌+◌, ◌≡◌, refl, List, [], ◌∷◌, true, length}
use Rattle.std.proofs.Common.{arith, subst, ◌∙◌}
use Rattle.value.specs.Maybe.{is, both}
use Rattle.value.specs.Lists.{at}
use Rattle.value.proofs.Laws.Maybes.{is_inj, missing}
use Rattle.value.proofs.Laws.Tests.{both_passed}
use Rattle.value.proofs.Laws.Lists.{Each}
use Rattle.format.specs.Syntax.{Instr, Block, Proc, Program, Plain, Kind}
use Rattle.format.specs.Encode.{each, block, bodies_of}
use Rattle.format.specs.Labels.{count, labels, labelled}
use Rattle.format.specs.Rules.{in_expr, named, named_i}
use Rattle.labels.specs.Spots.{body_at, CodeAt}
use Rattle.labels.specs.LabelMap.{Node, node_of}
use Rattle.labels.specs.Walks.{BodiesAt, BodiesIn}
use Rattle.format.proofs.Laws.Fits.{BlockFits, InstrFits}
use Rattle.format.proofs.Laws.Formed.{Formed}
use Rattle.format.proofs.Laws.Grammar.{BlockAt}
use Rattle.format.proofs.Laws.Stands.{Stands}
use Rattle.format.proofs.Laws.TablePlaces.{records_at, all_bodies}
use Rattle.format.proofs.Laws.TablePlaces as Table
use Rattle.format.proofs.Laws.Labelled.{fits_label}
use Rattle.format.specs.Decode.{max_nesting}
use Rattle.labels.specs.Laws.Spots.{Inherited, spot_has, bodies_labels, code_stands}
use Rattle.labels.specs.Laws.LabelMap.{node_of_lem}

-- ---- what is inherited

-- what fits a block fits its spots
pub fits_inherited : {A : Type 0} (d : ℕ) → Inherited {A = A} (BlockFits d) (InstrFits d)
fits_inherited d = record {
  first = λ a j b h. (omega (arith, h.0), h.1.0);
  rest = λ a j b h. (omega (arith, h.0), h.1.1);
  loop = λ e b h. (h.0, h.1.1);
  yes = λ e b f h. (omega (arith, h.0), h.1.1);
  no = λ e b f h. (omega (arith, h.0), h.1.2);
}

-- names that mean something in a block do so at its spots
pub named_inherited : {A : Type 0} (p : Program A) (X : ℕ) → Inherited {A = A} (λ b. named p X b ≡ true) (λ j. named_i p X j ≡ true)
named_inherited p X = record {
  first = λ a j b h. (both_passed (named_i p X j) (named p X b) h).0;
  rest = λ a j b h. (both_passed (named_i p X j) (named p X b) h).1;
  loop = λ e b h. (both_passed (in_expr X (length p.sizes) e) (named p X b) h).1;
  yes = λ e b f h. (both_passed (named p X b) (named p X f) (both_passed (in_expr X (length p.sizes) e) (both (named p X b) (named p X f)) h).1).0;
  no = λ e b f h. (both_passed (named p X b) (named p X f) (both_passed (in_expr X (length p.sizes) e) (both (named p X b) (named p X f)) h).1).1;
}

-- what each body has, the body of procedure m has
pub body_has : {A : Type 0} (P : Block A → Type 0) (ps : List (Proc A)) (m : ℕ) {q : Proc A} → Each P (bodies_of ps) → at ps m ≡ is q → P q.body
body_has P [] m h e = missing e
body_has {A} P (p ∷ ps) zero h e = subst (λ (q : Proc A). P q.body) (is_inj e) h.0
body_has P (p ∷ ps) (suc m) h e = body_has P ps m h.1 e

-- what each body has, the code at each position has
pub code_has : {A : Type 0} {P : Block A → Type 0} {Q : Instr A → Type 0} → Inherited P Q → {ps : List (Proc A)} {m k : ℕ} {d r : Block A}
    → Each P (bodies_of ps) → CodeAt ps m k d r → P d
code_has {P = P} h {ps} {m} e c = spot_has h c.spot (body_has P ps m e c.found)

-- labelled bodies fit
labels_fit : {A : Type 0} (n : ℕ) (ps : List (Proc A)) (l : ℕ) → Each (BlockFits n) (bodies_of ps) → Each (BlockFits n) (bodies_of (labels l ps))
labels_fit n [] l h = tt
labels_fit n (p ∷ ps) l h = (fits_label p.body l h.0, labels_fit n ps (l + suc (count p.body)) h.1)

-- where a body begins, from the beginning of the bodies
pub body_place : {A : Type 0} (i : ℕ) (ps : List (Proc A)) (m : ℕ) → body_at i ps m ≡ i + Table.body_at ps m
body_place i [] m = omega arith
body_place i (p ∷ ps) zero = omega arith
body_place i (p ∷ ps) (suc m) = body_place (i + length (block p.body)) ps m ∙ omega arith

-- ---- of a program that was read

module _ {κ : Kind} {t : List ℕ} {p : Program Plain} (formed : Formed κ t p) where
  -- its bodies stand from byte 0 on
  pub bodies_at : BodiesAt t 0 (length p.procs) p.procs (records_at p)
  bodies_at = record { stands = all_bodies κ p formed.same; count = refl; fits = formed.fits }

  -- so the walks may begin
  pub bodies_in : BodiesIn t 0 (length p.procs)
  bodies_in = record { procs = p.procs; next = _; there = bodies_at }

  -- the code at a position stands there
  pub code_block : {m k : ℕ} {d r : Block Plain} → CodeAt p.procs m k d r → BlockAt t k max_nesting d (k + length (block d))
  code_block c = record { stands = code_stands (all_bodies κ p formed.same) c; fits = code_has (fits_inherited max_nesting) formed.fits c }

  -- and so does labelled code
  pub label_block : {m k : ℕ} {d r : Block ℕ} → CodeAt (labelled p).procs m k d r → BlockAt t k max_nesting d (k + length (block d))
  label_block c = record {
    stands =
        let bodies : Stands t 0 (each block (bodies_of (labelled p).procs)) (records_at p) =
        rw (bodies_labels p.procs 1) (all_bodies κ p formed.same)
        in
        code_stands bodies c;
    fits = code_has (fits_inherited max_nesting) (labels_fit max_nesting p.procs 1 formed.fits) c;
  }

  -- what the map says of a label stands at its place
  pub node_block : (l : ℕ) {n : Node} (e : node_of p l ≡ is n)
      → BlockAt t n.place max_nesting (node_of_lem p l e).left (n.place + length (block (node_of_lem p l e).left))
  node_block l e = label_block (node_of_lem p l e).spot
