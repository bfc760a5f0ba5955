-- One law for each way through the writer of the run program's line.
use Prim.Native.Nat.{ℕ, zero, suc, ◌+◌, ◌*◌, ◌/◌, ◌%◌, ◌^◌, ◌≤◌, ◌<◌}
use native.Mathlib.Omega.{arith}
use mathlib.Core.Path.{◌≡◌, sym, ap, subst, ◌∙◌}
use mathlib.Core.List.{List, [], ◌∷◌, ◌++◌, append_assoc}
use lib.ListN.{length, get_or, take, drop, length-append}
use lib.Seq.{sets-eq, take_all}
use borrow.Author.Tests.{eq-eqb, ne_eqb, ltb-true, ltb-false}
use lib.Dec.{ltb, eqb}
use Rattle.std.specs.Fmt as Fmt
use Rattle.std.specs.List.{flat_map}
use Rattle.std.proofs.Math.Nat.{pow-suc, div-lt_iff_lt-mul}
use Rattle.std.proofs.lemmas.Fmt.{decimal_digit, decimal_step}
use Rattle.std.proofs.lemmas.List.{flat_map_more, take_more}
use Rattle.value.specs.Lists.{over}
use Rattle.value.proofs.Laws.Tests.{by_test}
use Rattle.writer.specs.Laws.Put.{Put}
use Rattle.writer.proofs.Puts.{put_then, put_cons, put_same}
use Rattle.agreement.specs.declared.Figures.{Figures}
use Rattle.agreement.specs.Line.{digits, spaced, end_word}
use Rattle.agreement.specs.Line.{refused_word, newline, refused_line, numbers, line, lined}

-- ---- numbers

-- the library's digits are these
decimal_same : (k n : ℕ) → n < 10 ^ k → 0 < k → n < 2 ^ 64 → Fmt.decimal n ≡ digits k n
unfolding digits
decimal_same zero n f z w = absurd (omega arith)
decimal_same (suc k) n f z w =
    by_test (ltb n 10)
    (λ e. rw (e, digits) (decimal_digit n (ltb-true _ _ e)))
    (λ e.
    let ten : 10 ≤ n = omega (arith, ltb-false _ _ e) in
    let less : n < 10 ^ k * 10 = subst (λ (x : ℕ). n < x) (pow-suc 10 k) f in
    let before : n / 10 < 10 ^ k = (div-lt_iff_lt-mul {k = 10} {x = n} {y = 10 ^ k} (omega arith)).1 less in
    let small : n / 10 < 2 ^ 64 = omega arith in
    let more : 0 < k = more_than_one k ten f in
    rw (e, digits) (decimal_step n ten w ∙ ap (λ ds. ds ++ ((48 + n % 10) ∷ [])) (decimal_same k (n / 10) before more small)))
  where
    more_than_one : (k : ℕ) {n : ℕ} → 10 ≤ n → n < 10 ^ suc k → 0 < k
    more_than_one zero h l = absurd (omega (arith, h, l))
    more_than_one (suc k) h l = omega arith

-- a space, then a number
pub spaced_number : {o o' o'' : List ℕ} {p q r : ℕ} (n : ℕ) → n < 2 ^ 64 → Put o p (32 ∷ []) o' q → Put o' q (Fmt.decimal n) o'' r → Put o p (spaced n) o'' r
spaced_number n w P Q = put_cons P (put_same (decimal_same 20 n (omega arith) (omega arith) w) Q)

-- numbers one after the other
module _ {o o' : List ℕ} {p q : ℕ} (ns : List ℕ) where
  -- one more
  pub spaced_more : {o'' : List ℕ} {r : ℕ} (i : ℕ) → i < length ns → Put o p (flat_map spaced (take i ns)) o' q → Put o' q (spaced (get_or ns i 0)) o'' r
      → Put o p (flat_map spaced (take (i + 1) ns)) o'' r
  spaced_more i h P Q = put_same (one_more i h) (put_then (flat_map spaced (take i ns)) (spaced (get_or ns i 0)) P Q)
    where
      one_more : (i : ℕ) → i < length ns → flat_map spaced (take i ns) ++ spaced (get_or ns i 0) ≡ flat_map spaced (take (i + 1) ns)
      one_more i h = flat_map_more spaced [] (take i ns) (get_or ns i 0) ∙ ap (flat_map spaced) (sym (take_more ns i 0 h))

  -- all, and the end of the line
  pub spaced_all : {o'' : List ℕ} {r : ℕ} (i : ℕ) → length ns ≤ i → Put o p (flat_map spaced (take i ns)) o' q → Put o' q newline o'' r
      → Put o p (flat_map spaced ns ++ newline) o'' r
  spaced_all i h P Q = put_then (flat_map spaced ns) newline (put_same (ap (flat_map spaced) (take_all i ns h)) P) Q

-- ---- the line

-- the first of its numbers, and the others
spaced_first : (n : ℕ) (ns : List ℕ) → flat_map spaced (n ∷ ns) ++ newline ≡ spaced n ++ (flat_map spaced ns ++ newline)
spaced_first n ns = append_assoc (spaced n) (flat_map spaced ns) newline

-- of a refusal
pub line_refused : {o o' o'' : List ℕ} {p q r n : ℕ} (f : Figures) → (f.number ≡ 0 → ⊥) → n ≡ f.number → Put o p refused_word o' q
    → Put o' q (flat_map spaced (n ∷ []) ++ newline) o'' r → Put o p (line f) o'' r
unfolding line
line_refused f z e A B = rw (ne_eqb _ _ z) (rw (← e) (put_then refused_word (spaced _ ++ newline) A (put_same (spaced_first _ []) B)))

-- five of them
five_numbers : (a b c d e : ℕ) → flat_map spaced (a ∷ b ∷ c ∷ d ∷ e ∷ []) ++ newline ≡ numbers a b c d e
unfolding numbers
five_numbers a b c d e =
    spaced_first a (b ∷ c ∷ d ∷ e ∷ [])
    ∙ ap (spaced a ++◌) (spaced_first b (c ∷ d ∷ e ∷ []) ∙ ap (spaced b ++◌) (spaced_first c (d ∷ e ∷ [])
    ∙ ap (spaced c ++◌) (spaced_first d (e ∷ []) ∙ ap (spaced d ++◌) (spaced_first e []))))

-- of a run
pub line_told : {o o' o'' : List ℕ} {p q r n : ℕ} (f : Figures) → f.number ≡ 0 → n ≡ f.reason → Put o p (end_word f.end) o' q
    → Put o' q (flat_map spaced (f.steps ∷ f.copy ∷ f.unused ∷ f.events ∷ n ∷ []) ++ newline) o'' r → Put o p (line f) o'' r
unfolding line
line_told f z e A B =
    rw (eq-eqb _ _ z, ← e) (put_then (end_word f.end) (numbers f.steps f.copy f.unused f.events _) A (put_same (five_numbers f.steps f.copy f.unused f.events _) B))

-- ---- its length

-- at most so many digits
few_digits : (m n : ℕ) → length (digits m n) ≤ m
unfolding digits
few_digits zero n = omega arith
few_digits (suc k) n =
    by_test (ltb n 10)
    (λ e. rw (e, digits) (omega arith))
    (λ e. rw (e, digits) (simp length-append (omega (arith, few_digits k (n / 10)))))

-- a space and 20 digits
short_number : (n : ℕ) → length (spaced n) ≤ 21
short_number n = omega (arith, few_digits 20 n)

-- "finished" is the longest
short_word : (n : ℕ) → length (end_word n) ≤ 8
short_word zero = omega arith
short_word (suc zero) = omega arith
short_word (suc (suc n)) = omega arith

-- a refusal's line
short_refused : (n : ℕ) → length (refused_line n) ≤ 29
short_refused n = simp length-append (omega (arith, few_digits 20 n))

-- five numbers
short_numbers : (a b c d e : ℕ) → length (numbers a b c d e) ≤ 106
unfolding numbers
short_numbers a b c d e =
    simp length-append (omega (arith, few_digits 20 a, few_digits 20 b, few_digits 20 c, few_digits 20 d, few_digits 20 e))

-- a line has at most 114 bytes
pub short_line : (f : Figures) → length (line f) ≤ 114
unfolding line
short_line f =
    by_test (eqb f.number 0)
    (λ e. rw e (simp length-append (omega (arith, short_word f.end, short_numbers f.steps f.copy f.unused f.events f.reason))))
    (λ e. rw e (omega (arith, short_refused f.number)))

-- a line's first bytes are as many as it has
pub lies : (l o : List ℕ) {o' : List ℕ} {n : ℕ} → record { count = n; out = o' } ≡ lined l o → n ≤ length o'
unfolding lined
lies l o e =
    let count = ap (λ x. x.count) e in
    let long = ap (λ x. length x.out) e in
    omega (arith, count, long, length-append l (drop (length l) o))

-- so it fits
pub line_whole : {o o' : List ℕ} {r : ℕ} (f : Figures) → 128 ≤ length o → Put o 0 (line f) o' r → record { count = r; out = o' } ≡ lined (line f) o
unfolding lined
line_whole {o} {o'} {r} f h P =
    let short = short_line f in
    let from : 0 + length (line f) ≡ length (line f) = omega arith in
    let count : r ≡ length (line f) = P.next (omega arith) ∙ from in
    let bytes : o' ≡ over (line f) o = P.wrote (omega arith) ∙ sets-eq (line f) o 0 (omega arith) ∙ rw from in
    rw (count, bytes)
