-- Deciding a frequent step by words: one law for each way.
use Prim.Native.Nat.{ℕ, zero, suc, ◌+◌, ◌*◌, ◌-◌, ◌^◌, ◌≤◌, ◌<◌}
use native.Mathlib.Omega.{arith}
use mathlib.Core.Path.{◌≡◌, refl, sym, ap, subst, ◌∙◌}
use mathlib.Core.List.{List, [], ◌∷◌}
use mathlib.Core.Bool.{true, false}
use lib.ListN.{length, get_or, take}
use lib.IntN.{pos}
use borrow.Author.Tests.{lt-ltb}
use Rattle.value.specs.Maybe.{Maybe, is, nothing}
use Rattle.value.specs.Try.{has, ◌⟫◌, or_lacks}
use Rattle.value.specs.Lists.{sum}
use Rattle.value.specs.Values.{given, number, place}
use Rattle.value.proofs.Laws.Tries.{has_inj, lacking}
use Rattle.value.specs.declared.Value.{Value}
use Rattle.value.specs.declared.Value.TheVariants.{Whole, Location, Truth}
use Rattle.std.specs.Prelude.{Option, Some, None, Ok}
use Rattle.value.specs.declared.Reason.{Reason}
use Rattle.value.specs.declared.Reason.TheVariants.{WrongKind}
use Rattle.format.specs.Decode.{max_depth}
use Rattle.semantics.proofs.Laws.Cells.{shape}
use Rattle.engine.specs.Words.{held, value_in}
use Rattle.engine.specs.Work.{cell_words, most_locations, Placed, Places}
use Rattle.engine.specs.Evaluated.{valued, Evaluates}
use Rattle.engine.specs.Laws.Words.{held_word}
use Rattle.engine.specs.Laws.Holding.{length_flat, cell_full, cell_held}
use Rattle.engine.specs.Laws.Starting.{next_start}
use Rattle.engine.specs.declared.memory.Spot.{Spot}
use Rattle.decide.specs.declared.step.Step.TheVariants as S
use Rattle.decide.specs.Decided.{Kept}
use Rattle.decide.proofs.Deciding as D
use Rattle.quick.specs.declared.brief.Worded.{Worded}
use Rattle.quick.specs.declared.turn.Quick.TheVariants.{Assign, Read, Write, Holds, Fails, Left}
use Rattle.quick.specs.Brief.{answer_of, answer_in, Standing, LocalAt, Sure}
use Rattle.quick.specs.Quick.{Row, none, more, Small, Spotted, Assigns, Writing, Writes, Reading, Reads, Tested}
use Rattle.quick.proofs.Operating.{true_held, false_held}
use Rattle.quick.proofs.Wording as W
use Rattle.quick.proofs.Wording.{answer_given, location_is}

-- ---- what is sure has a value

module _ {t ls : List ℕ} {fb i : ℕ} {e : Worded} (s : Sure t ls fb i e) (n : e.word ≡ 0 → ⊥) where
  -- it is evaluated
  pub sure_eval : Evaluates t ls fb i max_depth (valued (Ok (s.shows n).value) e.next)
  sure_eval = subst (λ a. Evaluates t ls fb i max_depth (valued a e.next)) (ap answer_of (s.shows n).holds) (s.words.says n max_depth)

-- that of a word that is known
pub sure_known : {t ls : List ℕ} {fb i : ℕ} {e : Worded} (v : Value) → Sure t ls fb i e → (e.word ≡ 0 → ⊥) → held e.word ≡ is v
    → Evaluates t ls fb i max_depth (valued (Ok v) e.next)
sure_known {t} {ls} {fb} {i} {e} v s n h = subst (λ a. Evaluates t ls fb i max_depth (valued a e.next)) (ap answer_of h) (s.words.says n max_depth)

-- ---- "x := e"

module _ {t : List ℕ} {i : ℕ} {e : Worded} where
  pub assigns_left : Assigns t i e Left
  assigns_left = record { turned = λ js ls bs cs fb left q s. tt }

  pub assigns_some : {x : ℕ} → (e.word ≡ 0 → ⊥) → x ≡ get_or t (i + 1) 0 → Assigns t i e (Assign x e.word e.next)
  assigns_some {x} n a = record {
    turned = λ js ls bs cs fb left q s.
        let v = (s.shows n).value in
        (v, (s.shows n).holds, D.decides_assign q (sure_eval s n) (record { step = ap (λ x. S.Assign x v e.next) a }));
  }

-- ---- the test of a while or an if

module _ {js : List ℕ} {i : ℕ} {e : Worded} where
  pub tested_left : Tested js i e Left
  tested_left = record { turned = λ t ls bs cs fb left m l s. tt }

  pub tested_holds : e.word ≡ 17179869184 → Tested js i e (Holds e.next)
  tested_holds h = record {
    turned = λ t ls bs cs fb left m l s.
        D.decides_test m (sure_known (Truth true) s (λ z. omega arith) (ap held h ∙ true_held)) (record { step = refl });
  }

  pub tested_fails : {k : ℕ} → e.word ≡ 12884901888 → k ≡ get_or js i 0 → Tested js i e (Fails k 1)
  tested_fails {k} h q = record {
    turned = λ t ls bs cs fb left m l s. (
      refl,
      omega arith,
      l,
      subst (Row t js ls bs cs fb i 1) (sym q)
          (more none m (D.decides_test m (sure_known (Truth false) s (λ z. omega arith) (ap held h ∙ false_held)) (record { step = refl }))),
    );
  }

-- ---- the cell of a pointer and an index

-- no first cell is above the number of all cells
sum_take : (ns : List ℕ) (l : ℕ) → sum (take l ns) ≤ sum ns
sum_take [] zero = omega arith
sum_take [] (suc l) = omega arith
sum_take (n ∷ ns) zero = omega arith
sum_take (n ∷ ns) (suc l) = omega (arith, sum_take ns l)

pub kept_small : {bs cs : List ℕ} → Kept bs cs → length cs ≡ cell_words → Small bs
kept_small {bs} {cs} k f = record {
  small = λ l h.
      let start = k.lies.bases.starts l h in
      omega (arith, start, sum_take (shape k.memory) l, length_flat k.memory, k.lies.holds.few);
}

module _ {bs : List ℕ} {p o : ℕ} where
  pub spot_none : Spotted bs p o None
  spot_none = record { places = λ at e. cc }

  pub spot_some : {a e : ℕ} → Small bs → 8589934592 ≤ p → p - 8589934592 < most_locations → 4294967296 ≤ o
      → a ≡ get_or bs (p - 8589934592) 0 → e ≡ get_or bs (p - 8589934592 + 1) 0 → a + (o - 4294967296) < e
      → Spotted bs p o (Some (record { location = p - 8589934592; index = o - 4294967296; cell = a + (o - 4294967296) }))
  spot_some {a} {e} s lp hp lo qa qe c = record {
    places = λ at z. some_placed z (record {
      placed = λ η b.
          let from : a ≡ sum (take (p - 8589934592) (shape η)) = qa ∙ b.starts (p - 8589934592) (omega arith) in
          let to : e ≡ sum (take (p - 8589934592 + 1) (shape η)) = qe ∙ b.starts (p - 8589934592 + 1) (omega arith) in
          let low : o - 4294967296 < 2 ^ 31 = omega (arith, s.small (p - 8589934592 + 1) (omega arith)) in
          (index_read (answer_index low), place_read, record { number = ap (◌+ (o - 4294967296)) from; size = omega (arith, next_start (shape η) (p - 8589934592)) });
    });
  }
    where
      some_placed : {u v : Spot} → Some u ≡ Some v → Places bs (given (answer_in p)) (given (answer_in o)) (Ok u)
          → Places bs (given (answer_in p)) (given (answer_in o)) (Ok v)
      some_placed {u} {v} e P = let same : u ≡ v = cc in rw (← same) P

      answer_index : o - 4294967296 < 2 ^ 31 → held o ≡ is (Whole (pos (o - 4294967296)))
      answer_index l =
          let same : o ≡ 2 ^ 32 * 1 + (o - 4294967296) = omega arith in
          ap held same ∙ held_word 1 (o - 4294967296) (omega arith) (omega arith) ∙ rw (lt-ltb (o - 4294967296) (2 ^ 31) l)

      index_read : held o ≡ is (Whole (pos (o - 4294967296))) → (given (answer_in o) ⟫ number) ≡ has (pos (o - 4294967296))
      index_read h = ap (λ m. given (answer_of m) ⟫ number) h

      pointer : held p ≡ is (Location (p - 8589934592))
      pointer = let same : p ≡ 2 ^ 32 * 2 + (p - 8589934592) = omega arith in ap held same ∙ location_is (p - 8589934592) (omega arith)

      place_read : (given (answer_in p) ⟫ place) ≡ has (p - 8589934592)
      place_read = ap (λ m. given (answer_of m) ⟫ place) pointer

-- ---- "y[o] := e", with a local o

pub writes_left : {t ls bs : List ℕ} {fb i : ℕ} → Writes t ls bs fb i Left
writes_left = record { turned = λ js cs left. tt }

pub reads_left : {t ls bs cs : List ℕ} {fb i : ℕ} → Reads t ls bs cs fb i Left
reads_left = record { turned = λ js left. tt }

-- what a word that is known to have a value holds
has_held : (m : Maybe Value) (v : Value) → or_lacks WrongKind m ≡ has v → m ≡ is v
has_held (is u) v e = ap is (has_inj e)
has_held nothing v e = lacking e

module _ {t ls bs : List ℕ} {fb i : ℕ} {e : Worded} where
  -- where things stand
  offset_here : Writing t ls bs fb i e → Standing t ls fb (i + 2)
  offset_here w = record { d = max_depth; ready = D.offset_ready w.poised w.mark }

  pub write_offset : Writing t ls bs fb i e → LocalAt t ls fb (i + 3)
  write_offset w = let at : i + 2 + 1 ≡ i + 3 = omega arith in subst (LocalAt t ls fb) at (W.local_room (offset_here w) w.offset)

  pub write_pointer : Writing t ls bs fb i e → LocalAt t ls fb (i + 1)
  write_pointer w = record {
    inside = omega (arith, (write_offset w).inside);
    word = D.write_word w.poised w.mark refl;
  }

  pub writes_some : {p o : ℕ} {s : Option Spot} {at : Spot} → Writing t ls bs fb i e → (e.word ≡ 0 → ⊥) → p ≡ get_or ls (fb + get_or t (i + 1) 0) 0
      → o ≡ get_or ls (fb + get_or t (i + 3) 0) 0 → Spotted bs p o s → s ≡ Some at
      → Writes t ls bs fb i (Write at.location at.index at.cell e.word e.next)
  writes_some {p} {o} {s} {at} w n qp qo P z = record {
    turned = λ js cs left.
        let v = (w.source.shows n).value in
        let third : i + 2 + 1 ≡ i + 3 = omega arith in
        let fourth : i + 2 + 2 ≡ i + 4 = omega arith in
        let X : Evaluates t ls fb (i + 2) max_depth (valued (answer_in o) (i + 2 + 2)) =
        W.local_eval max_depth w.offset (qo ∙ ap (λ k. get_or ls (fb + get_or t k 0) 0) (sym third))
        in
        let Y : Evaluates t ls fb (i + 2 + 2) max_depth (valued (Ok v) e.next) =
        subst (λ k. Evaluates t ls fb k max_depth (valued (Ok v) e.next)) (sym fourth) (sure_eval w.source n)
        in (
          v,
          (w.source.shows n).holds,
          D.decides_write w.mark
              (D.write_some w.mark X Y (answer_in p) refl refl (answer_given (held p) ∙ ap value_in qp) (P.places at z) refl),
        );
  }

-- ---- "x := y[o]"

module _ {t ls bs cs : List ℕ} {fb i o n : ℕ} where
  pub read_pointer : Reading t ls bs cs fb i o n → LocalAt t ls fb (i + 2)
  read_pointer r = record {
    inside = omega (arith, D.read_inside (record { poised = r.poised; mark = r.mark; offset = r.offset }));
    word = D.read_word r.poised r.mark refl;
  }

  pub read_target : Reading t ls bs cs fb i o n → i + 1 < length t
  read_target r = omega (arith, D.read_inside (record { poised = r.poised; mark = r.mark; offset = r.offset }))

  pub read_cell : {p : ℕ} {s : Option Spot} {at : Spot} → Reading t ls bs cs fb i o n → Spotted bs p o s → s ≡ Some at → at.cell < length cs
  read_cell {p} {s} {at} r P z = D.found_word (given (answer_in p)) (given (answer_in o)) r.kept (P.places at z) refl

  pub reads_some : {x p w : ℕ} {s : Option Spot} {at : Spot} → Reading t ls bs cs fb i o n → x ≡ get_or t (i + 1) 0 → p ≡ get_or ls (fb + get_or t (i + 2) 0) 0
      → Spotted bs p o s → s ≡ Some at → w ≡ get_or cs at.cell 0 → Reads t ls bs cs fb i (Read x at.location at.index w n)
  reads_some {x} {p} {w} {s} {at} r qx qp P z qw = record {
    turned = λ js left.
        let found = (P.places at z).placed r.kept.memory r.kept.lies.bases in
        let full = cell_full r.kept.memory found.2 in
        let there : held (get_or cs at.cell 0) ≡ is full.0 = has_held (held (get_or cs at.cell 0)) full.0 (cell_held r.kept.lies.holds found.2 ∙ full.1) in (
          full.0,
          ap held qw ∙ there,
          D.decides_read r.mark
              (D.read_some (answer_in p) r.mark r.offset refl (answer_given (held p) ∙ ap value_in qp) (P.places at z)
              (Ok full.0) refl (sym (ap (or_lacks WrongKind) there)) refl qx),
        );
  }

pub ruleset part_ways = (
  assigns_left,
  assigns_some,
  tested_left,
  tested_holds,
  tested_fails,
  spot_none,
  spot_some,
  write_offset,
  write_pointer,
  writes_left,
  writes_some,
  read_pointer,
  read_target,
  read_cell,
  reads_left,
  reads_some,
)
