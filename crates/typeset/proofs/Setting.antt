-- One law for each way to set bytes.
use Prim.Native.Nat.{ℕ, zero, suc, ◌+◌, ◌-◌, ◌/◌, ◌%◌, ◌^◌, ◌≤◌, ◌<◌}
use native.Mathlib.Omega.{arith}
use native.Mathlib.Numerals.{add-one}
use Rattle.std.specs.Prelude.{min}
use Rattle.std.proofs.Math.Nat.{min-le_left, min-le_right, min-eq_left, min-eq_right}
use Rattle.std.proofs.lemmas.List.{length-drop, length-set, take-replicate}
use mathlib.Core.Path.{◌≡◌, refl, sym, ap, ap₂, ◌∙◌}
use mathlib.Core.List.{List, [], ◌∷◌, ◌++◌}
use mathlib.Core.Bool.{Bool, true, false, not}
use lib.ListN.{length, get_or, set, drop, take, replicate, drop_of_length-le}
use lib.Seq.{drop-cons, set_out}
use Rattle.std.proofs.lemmas.List.Edits.{sets}
use Rattle.std.proofs.Math.Seq.{length-sets, take-length}
use lib.Dec.{eqb, ltb}
use borrow.Author.Tests.{lt-ltb, le-ltb, eq-eqb, ne_eqb, ltb-true, ltb-false}
use Rattle.std.specs.Prelude.{Option, Some, None, SomeIff}
use Rattle.std.specs.Borrow.{Bor, MutBor}
use Rattle.value.specs.Values.{unword}
use Rattle.value.proofs.Laws.Tests.{by_test}
use Rattle.ctext.specs.Pieces.{digits, decimal, whole}
use Rattle.typeset.specs.declared.pieces.Page.{Page}
use Rattle.typeset.specs.Page.{Place, onward, otherwise, agreeing, set_one, set_all, place, lent, IsPast, Put, Onto}

-- ---- one byte

-- the text has another byte there
pub differs_there : (x : List ℕ) (p b : ℕ) → p < length x → not (eqb (get_or x p 0) b) ≡ otherwise x p b
unfolding otherwise
differs_there x p b l = rw (lt-ltb _ _ l)

-- it has none
pub differs_past : (x : List ℕ) (p b : ℕ) → length x ≤ p → false ≡ otherwise x p b
unfolding otherwise
differs_past x p b l = rw (le-ltb _ _ l)

-- as the code says it
pub differs_not : (x : List ℕ) (p b : ℕ) → length x ≤ p → ltb p (length x) ≡ otherwise x p b
unfolding otherwise
differs_not x p b l = rw (le-ltb _ _ l)

-- the place n further, as it is counted
pub onward_counted : (p n : ℕ) {r : Option ℕ} → SomeIff r (p + n < 2 ^ 64) (p + n) → r ≡ onward p n
unfolding onward
onward_counted p n {r = None} h = by_test (ltb (p + n) (2 ^ 64)) (λ e. absurd (h (ltb-true _ _ e))) (λ e. rw (e, onward))
onward_counted p n {r = Some r} h = rw (lt-ltb _ _ h.0, onward) (ap (λ r. Some r) h.1)

module _ {p : Page} {b : ℕ} where
  -- no place
  pub put_stay : p.at ≡ None → Put p (b ∷ []) p
  unfolding set_one
  put_stay e = record { puts = rw e; kept = refl }

  -- another byte
  pub put_differ : {k : ℕ} {d : Bool} → p.at ≡ Some k → d ≡ otherwise p.text.now k b → d ≡ true
      → Put p (b ∷ []) (record { text = p.text; out = p.out; at = None })
  unfolding set_one
  put_differ l e t = record { puts = rw (l, set_one, sym e ∙ t); kept = refl }

  -- the byte
  pub put_set : {k : ℕ} {d : Bool} {x : Bor (List ℕ)} {o : MutBor (List ℕ)} {r : Option ℕ} → p.at ≡ Some k → d ≡ otherwise p.text.now k b → d ≡ false
      → o.now ≡ set p.out.now k b → (o.ghost_name, x.now, length o.now) ≡ lent p → SomeIff r (k + 1 < 2 ^ 64) (k + 1)
      → Put p (b ∷ []) (record { text = x; out = o; at = r })
  unfolding set_one
  put_set {k} l e t s same n = record { puts = rw (l, set_one, sym e ∙ t) (ap₂ (λ o r. record { out = o; at = r }) s (onward_counted k 1 n)); kept = same }

-- ---- bytes one after the other

-- parts one after the other
all_append : (x : List ℕ) (s : Place) (a b : List ℕ) → set_all x s (a ++ b) ≡ set_all x (set_all x s a) b
all_append x s [] b = refl
all_append x s (c ∷ a) b = all_append x (set_one x s c) a b

-- nothing
pub put_none : {p : Page} → Put p [] p
put_none = record { puts = refl; kept = refl }

-- one part, then another
pub put_then : {p q r : Page} (a b : List ℕ) → Put p a q → Put q b r → Put p (a ++ b) r
put_then {p} a b A B = record {
  puts = B.puts ∙ ap₂ (λ x s. set_all x s b) (ap (λ f. f.1) A.kept) A.puts ∙ sym (all_append p.text.now (place p) a b);
  kept = B.kept ∙ A.kept;
}

-- a byte, then others
pub put_cons : {p q r : Page} {b : ℕ} {bs : List ℕ} → Put p (b ∷ []) q → Put q bs r → Put p (b ∷ bs) r
put_cons {b = b} {bs = bs} A B = put_then (b ∷ []) bs A B

-- the same bytes
pub put_same : {p q : Page} {a b : List ℕ} → a ≡ b → Put p a q → Put p b q
put_same e P = rw (← e) P

-- ---- past both ends

-- from no place nothing is set
pub set_nowhere : (x o bs : List ℕ) → set_all x (record { out = o; at = None }) bs ≡ record { out = o; at = None }
unfolding set_one
set_nowhere x o [] = refl
set_nowhere x o (b ∷ bs) = set_nowhere x o bs

-- no way
pub onward_none : (p : ℕ) → p < 2 ^ 64 → onward p 0 ≡ Some p
unfolding onward
onward_none p l = let same : p + 0 ≡ p = omega arith in rw (lt-ltb (p + 0) (2 ^ 64) (omega arith), onward) (ap (λ r. Some r) same)

-- the same way in two parts
pub onward_same : (p q m n : ℕ) → p + m ≡ q + n → onward p m ≡ onward q n
unfolding onward
onward_same p q m n e = ap (λ k. elim (ltb k (2 ^ 64)) [ true ↦ Some k | false ↦ None ]) e

-- bytes are counted
counted_all : (x o : List ℕ) (p : ℕ) (bs : List ℕ) → length x ≤ p → length o ≤ p → p < 2 ^ 64
    → set_all x (record { out = o; at = Some p }) bs ≡ record { out = o; at = onward p (length bs) }
unfolding onward set_one
counted_all x o p [] l m h = ap (λ r. record { out = o; at = r }) (sym (onward_none p h))
counted_all x o p (b ∷ bs) l m h = by_test (ltb (p + 1) (2 ^ 64))
    (λ e.
    let near : p + 1 < 2 ^ 64 = ltb-true _ _ e in
    let further : p + 1 + length bs ≡ p + suc (length bs) = omega arith in
    ap (λ s. set_all x s bs) (one (Some (p + 1)) (rw (e, onward) refl)) ∙ counted_all x o (p + 1) bs (omega arith) (omega arith) near
    ∙ ap (λ r. record { out = o; at = r }) (onward_same _ _ _ _ further))
    (λ e.
    let far : 2 ^ 64 ≤ p + 1 = ltb-false _ _ e in
    let farther : ltb (p + suc (length bs)) (2 ^ 64) ≡ false = le-ltb _ _ (omega arith) in
    ap (λ s. set_all x s bs) (one None (rw (e, onward))) ∙ set_nowhere x o bs ∙ ap (λ r. record { out = o; at = r }) (rw (farther, onward)))
  where
    one : (r : Option ℕ) → onward p 1 ≡ r → set_one x (record { out = o; at = Some p }) b ≡ record { out = o; at = r }
    one r e = rw (sym (differs_past x p b l), set_one) (ap₂ (λ o r. record { out = o; at = r }) (set_out o p b m) e)

-- a piece
pub put_counted : {p : Page} {k : ℕ} {r : Option ℕ} (bs : List ℕ) → p.at ≡ Some k → IsPast p k → SomeIff r (k + length bs < 2 ^ 64) (k + length bs)
    → Put p bs (record { text = p.text; out = p.out; at = r })
put_counted {p} {k} bs e h n = record {
  puts = rw e (ap (λ r. record { out = p.out.now; at = r }) (onward_counted k (length bs) n) ∙ sym (counted_all p.text.now p.out.now k bs h.0 h.1 h.2));
  kept = refl;
}

-- ---- a whole piece

-- no place, and nothing is set
pub put_stay_all : {p : Page} (bs : List ℕ) → p.at ≡ None → Put p bs p
put_stay_all {p} bs e = record { puts = rw e (sym (set_nowhere p.text.now p.out.now bs)); kept = refl }

-- past the end of the text all bytes agree
agreeing_past : (x : List ℕ) (p : ℕ) (bs : List ℕ) → length x ≤ p → agreeing x p bs ≡ length bs
unfolding agreeing
agreeing_past x p [] l = refl
agreeing_past x p (b ∷ bs) l = rw (sym (differs_past x p b l), agreeing) (ap suc (agreeing_past x (suc p) bs (omega arith)))

-- of no bytes, none
agreeing_none : (x : List ℕ) (p : ℕ) → agreeing x p [] ≡ 0
unfolding agreeing
agreeing_none x p = refl

-- the text has this byte
agreeing_same : (x : List ℕ) (p b : ℕ) (bs : List ℕ) → p < length x → get_or x p 0 ≡ b → agreeing x p (b ∷ bs) ≡ suc (agreeing x (suc p) bs)
unfolding agreeing
agreeing_same x p b bs l e = rw (sym (differs_there x p b l) ∙ ap not (eq-eqb _ _ e), agreeing)

-- it has another
agreeing_differ : (x : List ℕ) (p b : ℕ) (bs : List ℕ) → p < length x → (get_or x p 0 ≡ b → ⊥) → agreeing x p (b ∷ bs) ≡ 0
unfolding agreeing
agreeing_differ x p b bs l e = rw (sym (differs_there x p b l) ∙ ap not (ne_eqb _ _ e), agreeing)

-- Of the bytes bs from p on, i agree; n are near enough to be compared.
module _ (x bs : List ℕ) (p i : ℕ) {n m : ℕ} (all : agreeing x p bs ≡ i + agreeing x (p + i) (drop i bs)) (near : n ≡ min (length bs) m) (rest : m ≡ length x - p) where
  -- so does another byte
  pub agrees_next : i < n → get_or x (p + i) 0 ≡ get_or bs i 0 → agreeing x p bs ≡ i + 1 + agreeing x (p + (i + 1)) (drop (i + 1) bs)
  agrees_next l e =
      let a : min (length bs) m ≤ length bs = min-le_left _ _ in
      let b : min (length bs) m ≤ m = min-le_right _ _ in
      let next : suc (p + i) ≡ p + suc i = omega arith in
      let one : agreeing x (p + i) (drop i bs) ≡ suc (agreeing x (p + suc i) (drop (suc i) bs)) =
      ap (agreeing x (p + i)) (drop-cons bs i 0 (omega arith)) ∙ agreeing_same x (p + i) _ (drop (suc i) bs) (omega arith) e
      ∙ ap (λ q. suc (agreeing x q (drop (suc i) bs))) next in
      rw add-one (omega (arith, all, one))

  -- another byte does not
  pub agrees_no_more : i < n → (get_or x (p + i) 0 ≡ get_or bs i 0 → ⊥) → i ≡ agreeing x p bs
  agrees_no_more l e =
      let a : min (length bs) m ≤ length bs = min-le_left _ _ in
      let b : min (length bs) m ≤ m = min-le_right _ _ in
      let none : agreeing x (p + i) (drop i bs) ≡ 0 =
      ap (agreeing x (p + i)) (drop-cons bs i 0 (omega arith)) ∙ agreeing_differ x (p + i) _ (drop (suc i) bs) (omega arith) e in
      omega arith

  -- none is left to compare
  pub agrees_whole : n ≤ i → i ≤ n → length bs ≡ agreeing x p bs
  agrees_whole l h = by_test (ltb m (length bs))
      (λ e.
      let a : m < length bs = ltb-true _ _ e in
      let same : min (length bs) m ≡ m = min-eq_right (omega arith) in
      let b : length x ≤ p + i = omega arith in
      let past : agreeing x (p + i) (drop i bs) ≡ length bs - i = agreeing_past x (p + i) (drop i bs) b ∙ length-drop i bs in
      omega arith)
      (λ e.
      let a : length bs ≤ m = ltb-false _ _ e in
      let same : min (length bs) m ≡ length bs = min-eq_left a in
      let none : agreeing x (p + i) (drop i bs) ≡ 0 = ap (agreeing x (p + i)) (drop_of_length-le bs {i = i} (omega arith)) ∙ agreeing_none x (p + i) in
      omega arith)

-- no more bytes agree than there are
pub agreeing_most : (x : List ℕ) (p : ℕ) (bs : List ℕ) → agreeing x p bs ≤ length bs
unfolding agreeing
agreeing_most x p [] = omega arith
agreeing_most x p (b ∷ bs) = by_test (otherwise x p b)
    (λ e. rw (e, agreeing) (omega arith))
    (λ e. let h : agreeing x (suc p) bs ≤ length bs = agreeing_most x (suc p) bs in rw (e, agreeing) (omega arith))

-- bytes past the end of a buffer are not stored
sets_past : (o : List ℕ) (p : ℕ) (bs : List ℕ) → length o ≤ p → sets o p bs ≡ o
sets_past o p [] l = refl
sets_past o p (b ∷ bs) l = ap (λ o. sets o (suc p) bs) (set_out o p b l) ∙ sets_past o (suc p) bs (omega arith)

-- Of the bytes bs from p on in o, those from i on are still to be stored; n have room.
module _ (o u bs : List ℕ) (p i : ℕ) {n m : ℕ} (all : sets o p bs ≡ sets u (p + i) (drop i bs)) (near : n ≡ min (length bs) m) (rest : m ≡ length o - p) where
  -- one more is stored
  pub stores_next : i < n → sets o p bs ≡ sets (set u (p + i) (get_or bs i 0)) (p + (i + 1)) (drop (i + 1) bs)
  stores_next l =
      let a : min (length bs) m ≤ length bs = min-le_left _ _ in
      let next : suc (p + i) ≡ p + suc i = omega arith in
      rw add-one (all ∙ ap (sets u (p + i)) (drop-cons bs i 0 (omega arith)) ∙ ap (λ q. sets (set u (p + i) (get_or bs i 0)) q (drop (suc i) bs)) next)

  -- none is left to store
  pub stores_whole : n ≤ i → length u ≡ length o → u ≡ sets o p bs
  stores_whole l h = by_test (ltb m (length bs))
      (λ e.
      let a : m < length bs = ltb-true _ _ e in
      let same : min (length bs) m ≡ m = min-eq_right (omega arith) in
      let b : length u ≤ p + i = omega arith in
      sym (all ∙ sets_past u (p + i) (drop i bs) b))
      (λ e.
      let a : length bs ≤ m = ltb-false _ _ e in
      let same : min (length bs) m ≡ length bs = min-eq_left a in
      sym (all ∙ ap (sets u (p + i)) (drop_of_length-le bs {i = i} (omega arith))))

-- all bytes agree: they are stored, and the text goes on behind them
agreed_all : (x o : List ℕ) (p : ℕ) (bs : List ℕ) → p < 2 ^ 64 → length o < 2 ^ 64 → agreeing x p bs ≡ length bs
    → set_all x (record { out = o; at = Some p }) bs ≡ record { out = sets o p bs; at = onward p (length bs) }
unfolding agreeing set_one onward
agreed_all x o p [] h m e = ap (λ r. record { out = o; at = r }) (sym (onward_none p h))
agreed_all x o p (b ∷ bs) h m e = by_test (otherwise x p b)
    (λ d. let none : 0 ≡ suc (length bs) = (rw (d, agreeing) at e) in absurd (omega arith))
    (λ d.
    let more : suc (agreeing x (suc p) bs) ≡ suc (length bs) = (rw (d, agreeing) at e) in
    let rest : agreeing x (suc p) bs ≡ length bs = omega arith in
    let same : length (set o p b) ≡ length o = length-set o p b in
    by_test (ltb (p + 1) (2 ^ 64))
    (λ t.
    let near : p + 1 < 2 ^ 64 = ltb-true _ _ t in
    let further : suc p + length bs ≡ p + suc (length bs) = omega arith in
    ap (λ s. set_all x s bs) (one d (Some (suc p)) (rw (t, onward) (ap (λ k. Some k) (add-one p))))
    ∙ agreed_all x (set o p b) (suc p) bs (omega arith) (omega arith) rest
    ∙ ap (λ r. record { out = sets (set o p b) (suc p) bs; at = r }) (onward_same _ _ _ _ further))
    (λ t.
    let far : 2 ^ 64 ≤ p + 1 = ltb-false _ _ t in
    let farther : ltb (p + suc (length bs)) (2 ^ 64) ≡ false = le-ltb _ _ (omega arith) in
    ap (λ s. set_all x s bs) (one d None (rw (t, onward))) ∙ set_nowhere x (set o p b) bs
    ∙ ap₂ (λ o r. record { out = o; at = r }) (sym (sets_past (set o p b) (suc p) bs (omega arith))) (rw (farther, onward))))
  where
    one : otherwise x p b ≡ false → (r : Option ℕ) → onward p 1 ≡ r → set_one x (record { out = o; at = Some p }) b ≡ record { out = set o p b; at = r }
    one d r e = rw (d, set_one) (ap (λ r. record { out = set o p b; at = r }) e)

-- one does not: those before it are stored, and there is no going on
agreed_part : (x o : List ℕ) (p : ℕ) (bs : List ℕ) → length o < 2 ^ 64 → agreeing x p bs < length bs
    → set_all x (record { out = o; at = Some p }) bs ≡ record { out = sets o p (take (agreeing x p bs) bs); at = None }
unfolding agreeing set_one onward
agreed_part x o p [] m l = absurd (omega arith)
agreed_part x o p (b ∷ bs) m l = by_test (otherwise x p b)
    (λ d. rw (d, set_one, agreeing) (set_nowhere x o bs))
    (λ d.
    let more : suc (agreeing x (suc p) bs) < suc (length bs) = (rw (d, agreeing) at l) in
    let rest : agreeing x (suc p) bs < length bs = omega arith in
    let same : length (set o p b) ≡ length o = length-set o p b in
    by_test (ltb (p + 1) (2 ^ 64))
    (λ t.
    rw (d, agreeing) (ap (λ s. set_all x s bs) (one d (Some (suc p)) (rw (t, onward) (ap (λ k. Some k) (add-one p))))
    ∙ agreed_part x (set o p b) (suc p) bs (omega arith) rest))
    (λ t.
    let far : 2 ^ 64 ≤ p + 1 = ltb-false _ _ t in
    rw (d, agreeing) (ap (λ s. set_all x s bs) (one d None (rw (t, onward))) ∙ set_nowhere x (set o p b) bs
    ∙ ap (λ o. record { out = o; at = None }) (sym (sets_past (set o p b) (suc p) (take (agreeing x (suc p) bs) bs) (omega arith))))))
  where
    one : otherwise x p b ≡ false → (r : Option ℕ) → onward p 1 ≡ r → set_one x (record { out = o; at = Some p }) b ≡ record { out = set o p b; at = r }
    one d r e = rw (d, set_one) (ap (λ r. record { out = set o p b; at = r }) e)

module _ {p : Page} {k n : ℕ} {o : MutBor (List ℕ)} (bs : List ℕ) where
  -- a piece that the text agrees with
  pub put_agreed : {r : Option ℕ} → p.at ≡ Some k → k < 2 ^ 64 → length p.out.now < 2 ^ 64 → n ≡ agreeing p.text.now k bs
      → o.now ≡ sets p.out.now k (take n bs) → o.ghost_name ≡ p.out.ghost_name → length bs ≤ n → SomeIff r (k + n < 2 ^ 64) (k + n)
      → Put p bs (record { text = p.text; out = o; at = r })
  put_agreed e h m a s g l c =
      let most : agreeing p.text.now k bs ≤ length bs = agreeing_most p.text.now k bs in
      let all : n ≡ length bs = omega arith in
      let whole : o.now ≡ sets p.out.now k bs = s ∙ ap (λ bs. sets p.out.now k bs) (ap (λ n. take n bs) all ∙ take-length bs) in
      record {
        puts = rw e (ap₂ (λ o r. record { out = o; at = r }) whole (onward_counted k n c ∙ ap (onward k) all)
            ∙ sym (agreed_all p.text.now p.out.now k bs h m (sym a ∙ all)));
        kept = ap₂ (λ g n. (g, p.text.now, n)) g (ap length whole ∙ length-sets p.out.now k bs);
      }

  -- one that it has another byte of
  pub put_parted : p.at ≡ Some k → length p.out.now < 2 ^ 64 → n ≡ agreeing p.text.now k bs
      → o.now ≡ sets p.out.now k (take n bs) → o.ghost_name ≡ p.out.ghost_name → n < length bs
      → Put p bs (record { text = p.text; out = o; at = None })
  put_parted e m a s g l =
      let less : agreeing p.text.now k bs < length bs = omega arith in
      let part : o.now ≡ sets p.out.now k (take (agreeing p.text.now k bs) bs) = s ∙ ap (λ n. sets p.out.now k (take n bs)) a in
      record {
        puts = rw e (ap (λ o. record { out = o; at = None }) part ∙ sym (agreed_part p.text.now p.out.now k bs m less));
        kept = ap₂ (λ g n. (g, p.text.now, n)) g (ap length s ∙ length-sets p.out.now k (take n bs));
      }

-- ---- what remains

-- at the start, all of it
pub onto_start : {p : Page} {all : List ℕ} → Onto p all p all
onto_start = record { then = λ P. P; kept = refl }

-- a part more
pub onto_next : {p q r : Page} {all : List ℕ} (a rest : List ℕ) → Onto p all q (a ++ rest) → Put q a r → Onto p all r rest
onto_next a rest O P = record { then = λ Q. O.then (put_then a rest P Q); kept = P.kept ∙ O.kept }

-- at the end, nothing
pub onto_end : {p q : Page} {all : List ℕ} → Onto p all q [] → Put p all q
onto_end O = O.then put_none

-- a byte of a piece
pub piece_next : {p q r : Page} {all : List ℕ} (t : List ℕ) (i : ℕ) → Onto p all q (drop i t) → i < length t → Put q (get_or t i 0 ∷ []) r
    → Onto p all r (drop (i + 1) t)
piece_next t i O l P = rw add-one (onto_next (get_or t i 0 ∷ []) (drop (suc i) t) (rw (drop-cons t i 0 l) at O) P)

-- its end
pub piece_end : {p q : Page} {all : List ℕ} (t : List ℕ) (i : ℕ) → Onto p all q (drop i t) → length t ≤ i → Put p all q
piece_end t i O l = onto_end (rw (drop_of_length-le t {i = i} l) at O)

-- one of n spaces
pub spaces_next : {p q r : Page} {all : List ℕ} (n i : ℕ) → Onto p all q (replicate (n - i) 32) → i < n → Put q (32 ∷ []) r
    → Onto p all r (replicate (n - (i + 1)) 32)
spaces_next n i O l P =
    let more : n - i ≡ suc (n - (i + 1)) = omega arith in
    onto_next (32 ∷ []) (replicate (n - (i + 1)) 32) (rw more at O) P

-- at the start
pub spaces_start : {p : Page} (n : ℕ) → Onto p (replicate n 32) p (replicate (n - 0) 32)
spaces_start n = let all : n - 0 ≡ n = omega arith in rw all onto_start

-- none is left
pub spaces_end : {p q : Page} {all : List ℕ} (n i : ℕ) → Onto p all q (replicate (n - i) 32) → n ≤ i → Put p all q
spaces_end n i O l = let none : n - i ≡ 0 = omega arith in onto_end (rw none at O)

-- few of them, cut from 32
pub spaces_few : {p q : Page} (n : ℕ) → n ≤ 32 → Put p (take n (replicate 32 32)) q → Put p (replicate n 32) q
spaces_few n l P = put_same (take-replicate n 32 32 l) P

-- ---- numbers

-- a number below 10 is one digit
one_digit : (m n : ℕ) → (m ≡ 0 → ⊥) → n < 10 → (48 + n) ∷ [] ≡ digits m n
unfolding digits
one_digit zero n z l = absurd (z refl)
one_digit (suc k) n z l = rw (lt-ltb n 10 l, digits)

-- another ends with its last digit
more_digits : (m n : ℕ) → (m ≡ 0 → ⊥) → 10 ≤ n → digits (m - 1) (n / 10) ++ ((48 + n % 10) ∷ []) ≡ digits m n
unfolding digits
more_digits zero n z l = absurd (z refl)
more_digits (suc k) n z l = let before : suc k - 1 ≡ k = omega arith in rw (before, le-ltb n 10 l, digits)

module _ {p : Page} (m n : ℕ) where
  -- no digit is left to set
  pub digits_none : m ≡ 0 → Put p (digits m n) p
  unfolding digits
  digits_none e = rw e put_none

  -- the first digit
  pub digits_first : {q r : Page} → (m ≡ 0 → ⊥) → n < 10 → q ≡ p → Put q ((48 + n % 10) ∷ []) r → Put p (digits m n) r
  digits_first z l e P = let same : n % 10 ≡ n = omega arith in put_same (one_digit m n z l) (rw (same, e) at P)

  -- those before the last, and the last
  pub digits_last : {q u r : Page} → (m ≡ 0 → ⊥) → 10 ≤ n → Put p (digits (m - 1) (n / 10)) q → u ≡ q → Put u ((48 + n % 10) ∷ []) r
      → Put p (digits m n) r
  digits_last z l P e Q = put_same (more_digits m n z l) (put_then (digits (m - 1) (n / 10)) ((48 + n % 10) ∷ []) P (rw e at Q))

-- a whole number that is not below 0
pub whole_up : {p q : Page} (n : ℕ) → n < 2 ^ 31 → Put p (decimal n) q → Put p (whole (unword n)) q
whole_up n l P = rw (lt-ltb n (2 ^ 31) l) P

-- one that is
pub whole_down : {p q r : Page} (n m : ℕ) → 2 ^ 31 ≤ n → n < 2 ^ 32 → m < 2 ^ 32 → (m + n) % 2 ^ 32 ≡ 0 → Put p (45 ∷ []) q → Put q (decimal m) r
    → Put p (whole (unword n)) r
whole_down n m l h k e A B =
    let up : suc (2 ^ 32 - suc n) ≡ m = omega arith in
    rw (le-ltb n (2 ^ 31) l) (put_cons A (rw (sym up) at B))

-- one law for each way
pub ruleset set_ways = (
  differs_there,
  differs_not,
  put_stay,
  put_differ,
  put_set,
  put_none,
  put_cons,
  put_counted,
  onto_start,
  piece_next,
  piece_end,
  spaces_start,
  spaces_next,
  spaces_end,
  digits_none,
  digits_first,
  digits_last,
  whole_up,
  whole_down,
)
