-- One law for each way through the code of the last sixteen bytes and of the list of changes.
use Prim.Native.Nat.{ℕ, suc, ◌+◌, ◌-◌, ◌≤◌, ◌<◌}
use native.Mathlib.Omega.{arith}
use mathlib.Core.Path.{◌≡◌, refl, sym, ap, ap₂, subst, ◌∙◌}
use mathlib.Core.List.{List, [], ◌∷◌, ◌++◌, append_assoc, append-nil}
use mathlib.Core.Bool.{Bool}
use lib.Dec.{eqb}
use Rattle.value.specs.Maybe.{pick}
use Rattle.value.proofs.Laws.Tests.{by_test}
use lib.ListN.{length, get_or, drop, drop_of_length-le}
use lib.Seq.{sets-eq, drop-cons}
use borrow.Author.Tests.{eq-eqb, ne_eqb}
use Rattle.value.specs.Values.{bytes}
use Rattle.format.specs.Syntax.{Kind}
use Rattle.format.specs.Encode.{each, trailer, trailer_size, kind_mark, form_mark, distance}
use Rattle.format.specs.Decode.{but, last}
use Rattle.std.specs.Borrow.{MutBor}
use Rattle.writer.specs.declared.page.Page.{Page}
use Rattle.writer.specs.Laws.Put.{Put}
use Rattle.writer.specs.Laws.Pages.{Opens, Puts, Onto}
use Rattle.writer.proofs.Paging.{puts_none, puts_then, puts_same, onto_start, onto_next, onto_end}
use Rattle.mending.specs.Mending.{Change, changes_from, change_bytes}
use Rattle.mender.specs.declared.trailer.Counts.{Counts}
use Rattle.mender.specs.Trailing.{Sized, trailer_as, Trails, PutsBack, PutsChange, ListsChanges}

-- the change at a place, by whether the byte stays
abbrev one : ℕ → ℕ → ℕ → Bool → List Change
one i a b x = pick x [] (record { place = i; old = a; new = b } ∷ [])

-- ---- the last sixteen bytes

-- sixteen bytes on a page of sixteen
puts_whole : {bs : List ℕ} {o : MutBor (List ℕ)} {a b : Page} → length o.now ≡ trailer_size → length bs ≡ trailer_size → Opens o a → Puts a bs b
    → b.out.now ≡ bs
puts_whole {bs} {o} {a} {b} long n O P =
    let Q : Put a.out.now a.at bs b.out.now b.at = P.puts in
    let W : Put o.now 0 bs b.out.now b.at = rw (O.is, O.first) at Q in
    let none : drop (0 + length bs) o.now ≡ [] = drop_of_length-le o.now {i = 0 + length bs} (omega (arith, long, n)) in
    W.wrote (omega (arith, n)) ∙ sets-eq bs o.now 0 (omega (arith, long, n)) ∙ rw (none, append-nil)

-- the trailer of a choice, part by part, on a page of its own, and then written at the end
pub trails : {k : Kind} {t t' : List ℕ} {c : Counts} {o : MutBor (List ℕ)} {v : List ℕ} {a a₁ a₂ a₃ a₄ a₅ a₆ : Page} {m : ℕ} → m ≡ kind_mark k
    → Opens o a → length o.now ≡ trailer_size
    → Puts a (m ∷ form_mark ∷ []) a₁ → Puts a₁ (bytes 2 c.procedures) a₂ → Puts a₂ (bytes 2 c.locations) a₃ → Puts a₃ (bytes 2 c.threads) a₄
    → Puts a₄ (bytes 4 (distance c.procedures c.locations c.threads)) a₅ → Puts a₅ (bytes 4 (length t)) a₆
    → (o.ghost_name ≡ a₆.out.ghost_name → v ≡ a₆.out.now) → PutsBack v t t' → Trails k t c t'
trails {k} {t} {t'} {c} {o} {v} {a} {a₆ = a₆} {m} e O long A B C D E F last back =
    let all : Puts a (trailer (trailer_as k t c)) a₆ = rw e at (puts_then (m ∷ form_mark ∷ []) _ A (puts_then (bytes 2 c.procedures) _ B
    (puts_then (bytes 2 c.locations) _ C (puts_then (bytes 2 c.threads) _ D (puts_then (bytes 4 (distance c.procedures c.locations c.threads)) _ E F)))))
    in
    let whole : v ≡ trailer (trailer_as k t c) = last (sym (all.same ∙ O.same)) ∙ puts_whole long refl O all in
    record { same = back.same ∙ ap (but trailer_size t ++◌) whole }

-- ---- the list of changes

-- a byte that stays
pub change_none : {i a b : ℕ} {o : Page} → a ≡ b → PutsChange i a b o o
change_none {i} {a} {b} e = record { puts = puts_same (ap (λ (x : Bool). each change_bytes (one i a b x)) (sym (eq-eqb a b e))) puts_none }

-- one that changes
pub change_one : {i a b : ℕ} {o o₁ o₂ : Page} → (a ≡ b → ⊥) → Puts o (bytes 4 i) o₁ → Puts o₁ (a ∷ b ∷ []) o₂ → PutsChange i a b o o₂
change_one {i} {a} {b} n A B = record {
  puts = puts_same (ap (λ (x : Bool). each change_bytes (one i a b x)) (sym (ne_eqb a b n))) (puts_then (bytes 4 i) _ A B);
}

-- the change at a place, and then the others
changes_cons : (i a b : ℕ) (u v : List ℕ) → changes_from i (a ∷ u) (b ∷ v) ≡ changes_from i (a ∷ []) (b ∷ []) ++ changes_from (suc i) u v
changes_cons i a b u v = by_test (eqb a b) (λ e. rw e) (λ e. rw e)

-- things one after the other, in two rows
each_append : (xs ys : List Change) → each change_bytes (xs ++ ys) ≡ each change_bytes xs ++ each change_bytes ys
each_append [] ys = refl
each_append (x ∷ xs) ys =
    ap (change_bytes x ++◌) (each_append xs ys) ∙ sym (append_assoc (change_bytes x) (each change_bytes xs) (each change_bytes ys))

-- what is still to be listed from place i of the last sixteen on
abbrev later : List ℕ → List ℕ → ℕ → List ℕ
later old t i = each change_bytes (changes_from (length t - trailer_size + i) (drop i old) (drop (length t - trailer_size + i) t))

-- all that is to be listed
abbrev listed : List ℕ → List ℕ → List ℕ
listed old t = each change_bytes (changes_from (length t - trailer_size) old (last trailer_size t))

-- the loop
pub record Listing (old t : List ℕ) (a b : Page) (i : ℕ) : Type 0 where
  pub onto : Onto a (listed old t) b (later old t i)
  pub same : b.out.ghost_name ≡ a.out.ghost_name
  pub long : length old ≡ trailer_size
  pub sized : Sized t

-- before the first
pub listing_start : {old t : List ℕ} {a : Page} → Sized t → length old ≡ trailer_size → Listing old t a a 0
listing_start {old} {t} {a} s n =
    let same : length t - trailer_size ≡ length t - trailer_size + 0 = omega arith in
    record {
      onto = subst (λ (x : ℕ). Onto a (listed old t) a (each change_bytes (changes_from x old (drop x t)))) same onto_start;
      same = refl;
      long = n;
      sized = s;
    }

-- one more
pub listing_next : {old t : List ℕ} {a b c : Page} {i : ℕ} → Listing old t a b i → i < trailer_size
    → PutsChange (length t - trailer_size + i) (get_or old i 0) (get_or t (length t - trailer_size + i) 0) b c → Listing old t a c (i + 1)
listing_next {old} {t} {a} {b} {c} {i} L l P =
    let x : ℕ = length t - trailer_size + i in
    let j : suc i ≡ i + 1 = omega arith in
    let y : suc x ≡ length t - trailer_size + (i + 1) = omega arith in
    let one : List ℕ = each change_bytes (changes_from x (get_or old i 0 ∷ []) (get_or t x 0 ∷ [])) in
    let cut : later old t i ≡ one ++ later old t (i + 1) =
    ap₂ (λ (u v : List ℕ). each change_bytes (changes_from x u v)) (drop-cons old i 0 (omega (arith, L.long))) (drop-cons t x 0 (omega (arith, L.sized.long)))
    ∙ ap (each change_bytes) (changes_cons x (get_or old i 0) (get_or t x 0) (drop (suc i) old) (drop (suc x) t))
    ∙ each_append (changes_from x (get_or old i 0 ∷ []) (get_or t x 0 ∷ [])) (changes_from (suc x) (drop (suc i) old) (drop (suc x) t))
    ∙ ap₂ (λ (j y : ℕ). one ++ each change_bytes (changes_from y (drop j old) (drop y t))) j y
    in
    record {
      onto = onto_next one (later old t (i + 1)) (subst (λ (r : List ℕ). Onto a (listed old t) b r) cut L.onto) P.puts;
      same = P.puts.same ∙ L.same;
      long = L.long;
      sized = L.sized;
    }

-- after the last
pub listing_end : {old t : List ℕ} {a b : Page} {i : ℕ} → Listing old t a b i → trailer_size ≤ i → Puts a (listed old t) b
listing_end {old} {t} {a} {b} {i} L l =
    let none : drop i old ≡ [] = drop_of_length-le old {i = i} (omega (arith, L.long)) in
    let done : later old t i ≡ [] = ap (λ (u : List ℕ). each change_bytes (changes_from (length t - trailer_size + i) u (drop (length t - trailer_size + i) t))) none in
    onto_end (subst (λ (r : List ℕ). Onto a (listed old t) b r) done L.onto)

-- the list, on a page that begins with it
pub lists_changes : {old t u v : List ℕ} {o : MutBor (List ℕ)} {a b : Page} {i r : ℕ} → Opens o a → o.now ≡ u → Listing old t a b i → trailer_size ≤ i
    → r ≡ b.at → (o.ghost_name ≡ b.out.ghost_name → v ≡ b.out.now) → ListsChanges old t u v r
lists_changes {old} {t} {u} {v} {o} {a} {b} {i} {r} O same L l next last =
    let P : Put a.out.now a.at (listed old t) b.out.now b.at = (listing_end L l).puts in
    record { puts = rw (O.is, same, O.first, ← next, ← last (sym (L.same ∙ O.same))) at P }

-- one law for each way to list them
pub ruleset listing_ways = (change_none, change_one, listing_start, listing_next, lists_changes)
