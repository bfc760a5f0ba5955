-- What the text reader finds: the table whose text it is given, and no other.
use Rattle.std.specs.Prelude.{ℕ, zero, suc, ◌+◌, ◌≤◌, ◌<◌, ◌≡◌, refl, ◌↔◌, List, [], ◌∷◌, map, Bool, true, length, take, drop, eqb}
use Rattle.std.proofs.Common.{arith, sym, ap, ap₂, subst, ◌∙◌, eqb-true, eq-eqb, le-ltb}
use Rattle.std.proofs.Math.Seq.{take-append_seam}
use Rattle.std.proofs.lemmas.Bool.{eqb-false}
use Rattle.value.specs.Maybe.{Maybe, is, nothing}
use Rattle.value.specs.Lists.{upto, over}
use Rattle.value.proofs.Laws.Maybes.{missing, is_inj}
use Rattle.value.proofs.Laws.Tests.{by_test, never, both_passed, pass_both}
use Rattle.value.proofs.Laws.Lists.{Each, each_append, In, here, there, in_front, in_back}
use Rattle.value.proofs.Laws.Bytes.{Bytes}
use Rattle.format.specs.Syntax.{Program, Plain, sequential}
use Rattle.format.specs.Encode.{table}
use Rattle.format.specs.Rules.{Verdict, refused, accepted, verdict, limits}
use Rattle.format.proofs.Laws.Accepted.{accepted_exactly}
use Rattle.translation.specs.Calls.{refusal, written, writes}
use Rattle.ctext.specs.Text.{text}
use Rattle.ctext.specs.Calls.{print_as, print_call, same_bytes, text_as, find, longer, all_bytes, untext, read_as, read_text_call}
use Rattle.ctext.proofs.Laws.OneToOne.{text_unique}

-- ---- the search

-- what is found passes, and has what each thing has
found : {A : Type 0} (P : A → Type 0) (f : A → Bool) (l : List A) {a : A} → Each P l → find f l ≡ is a → (f a ≡ true) × P a
unfolding find
found P f [] h e = missing e
found P f (b ∷ l) {a} h e =
    by_test (f b)
    (λ t. let same : b ≡ a = is_inj (rw (t, find) at e) in subst (λ b. (f b ≡ true) × P b) same (t, h.0))
    (λ t. found P f l h.1 (rw (t, find) at e))

-- what passes is found, or another
passes : {A : Type 0} (f : A → Bool) (l : List A) {a : A} → In a l → f a ≡ true → find f l ≡ nothing → ⊥
unfolding find
passes f (a ∷ l) here p e = missing (sym (rw (p, find) at e))
passes f (b ∷ l) (there i) p e =
    by_test (f b) (λ t. missing (sym (rw (t, find) at e))) (λ t. passes f l i p (rw (t, find) at e))
passes {A = A} f [] {a = a} x3 p e = elim x3 [ ]

-- one byte more
in_map : (b : ℕ) {t : List ℕ} (ls : List (List ℕ)) → In t ls → In (b ∷ t) (map (λ l. b ∷ l) ls)
in_map b (t ∷ ls) here = here
in_map b (l ∷ ls) (there i) = there (in_map b ls i)
in_map b {t = t} [] x' = elim x' [ ]

-- any byte
in_longer : (a n b : ℕ) {t : List ℕ} (ls : List (List ℕ)) → a ≤ b → b < a + n → In t ls → In (b ∷ t) (longer (upto a n) ls)
in_longer a zero b ls h l i = absurd (omega arith)
in_longer a (suc n) b {t} ls h l i =
    by_test (eqb a b)
    (λ e. in_front (map (λ l. a ∷ l) ls) _ (rw (eqb-true a b e) (in_map b ls i)))
    (λ e. in_back (map (λ l. a ∷ l) ls) _ (in_longer (suc a) n b ls (omega (arith, eqb-false a b e)) (omega arith) i))

-- each list of bytes that is not too long is searched
in_all : (n : ℕ) (t : List ℕ) → Bytes t → length t ≤ n → In t (all_bytes n)
unfolding all_bytes
in_all zero [] h l = here
in_all zero (b ∷ t) h l = absurd (omega arith)
in_all (suc n) [] h l = here
in_all (suc n) (b ∷ t) h l = there (in_longer 0 256 b (all_bytes n) (omega arith) (omega (arith, h.0)) (in_all n t h.1 (omega arith)))

-- and no other
bytes_map : (b : ℕ) (ls : List (List ℕ)) → b < 256 → Each Bytes ls → Each Bytes (map (λ l. b ∷ l) ls)
bytes_map b [] l h = tt
bytes_map b (t ∷ ls) l h = ((l, h.0), bytes_map b ls l h.1)

bytes_longer : (a n : ℕ) (ls : List (List ℕ)) → a + n ≤ 256 → Each Bytes ls → Each Bytes (longer (upto a n) ls)
bytes_longer a zero ls l h = tt
bytes_longer a (suc n) ls l h =
    each_append Bytes (map (λ l. a ∷ l) ls) (longer (upto (suc a) n) ls) (bytes_map a ls (omega arith) h) (bytes_longer (suc a) n ls (omega arith) h)

all_bytes_lem : (n : ℕ) → Each Bytes (all_bytes n)
unfolding all_bytes
all_bytes_lem zero = (tt, tt)
all_bytes_lem (suc n) = (tt, bytes_longer 0 256 (all_bytes n) (omega arith) (all_bytes_lem n))

-- ---- the same bytes

same_so : (a b : List ℕ) → same_bytes a b ≡ true → a ≡ b
same_so [] [] e = refl
same_so [] (c ∷ b) e = absurd (never e)
same_so (c ∷ a) [] e = absurd (never e)
same_so (c ∷ a) (d ∷ b) e =
    let parts = both_passed (eqb c d) (same_bytes a b) e in
    ap₂ (◌∷◌) (eqb-true c d parts.0) (same_so a b parts.1)

same_of : (a : List ℕ) → same_bytes a a ≡ true
same_of [] = refl
same_of (c ∷ a) = pass_both (eq-eqb c c refl) (same_of a)

-- ---- what is found

-- x is the text of table t
pub record TextOf (t x : List ℕ) : Type 0 where
  pub bytes : Bytes t
  pub p : Program Plain
  pub read : verdict sequential t ≡ accepted p
  pub same : text p ≡ x

-- the test
is_text : (v : Verdict) (x : List ℕ) → text_as v x ≡ true → (p : Program Plain) × (v ≡ accepted p) × (text p ≡ x)
is_text (refused n) x e = absurd (never e)
is_text (accepted p) x e = (p, refl, same_so (text p) x e)

-- one table has a text
pub text_of_one : {t u x : List ℕ} → TextOf t x → TextOf u x → t ≡ u
text_of_one {t} {u} a b =
    let A = (accepted_exactly sequential t a.bytes a.p).0 a.read in
    let B = (accepted_exactly sequential u b.bytes b.p).0 b.read in
    let same = text_unique a.p b.p A.1 B.1 (a.same ∙ sym b.same) in
    A.0 ∙ ap (table sequential) same ∙ sym B.0

-- what is found is that table
untext_so : (x t : List ℕ) → untext x ≡ is t → TextOf t x
unfolding untext
untext_so x t e =
    let f = found Bytes (λ t. text_as (verdict sequential t) x) (all_bytes (limits sequential).bytes) (all_bytes_lem (limits sequential).bytes) e in
    let r = is_text (verdict sequential t) x f.0 in
    record { bytes = f.1; p = r.0; read = r.1; same = r.2 }

-- and that table is found
untext_some : (x t : List ℕ) → TextOf t x → untext x ≡ nothing → ⊥
unfolding untext
untext_some x t h e =
    let A = (accepted_exactly sequential t h.bytes h.p).0 h.read in
    let long : length t ≤ (limits sequential).bytes = rw A.0 A.1.size in
    let test : text_as (verdict sequential t) x ≡ true = rw (h.read, h.same) (same_of x) in
    passes (λ t. text_as (verdict sequential t) x) (all_bytes (limits sequential).bytes) (in_all (limits sequential).bytes t h.bytes long) test e

-- THE TEXT READER FINDS T EXACTLY IF THE INPUT IS T'S TEXT.
pub untext_exactly : (x t : List ℕ) → (untext x ≡ is t) ↔ TextOf t x
untext_exactly x t = (untext_so x t, λ h. by (untext x) refl h)
  where
    by : (m : Maybe (List ℕ)) → untext x ≡ m → TextOf t x → untext x ≡ is t
    by nothing e h = absurd (untext_some x t h e)
    by (is u) e h = e ∙ ap is (text_of_one (untext_so x u e) h)

-- ---- what the calls answer

-- 0 and the table, or 10: the text of an accepted table
pub reads : (x t out : List ℕ) → TextOf t x → read_text_call x out ≡ writes t out
unfolding read_text_call
reads x t out h = rw ((untext_exactly x t).1 h)

-- 1: all other text
pub refuses : (x out : List ℕ) → ((t : List ℕ) → TextOf t x → ⊥) → read_text_call x out ≡ record { answer = refusal 1; out = out }
unfolding read_text_call
refuses x out h = by (untext x) refl
  where
    by : (m : Maybe (List ℕ)) → untext x ≡ m → read_as (untext x) out ≡ record { answer = refusal 1; out = out }
    by nothing e = rw e
    by (is t) e = absurd (h t (untext_so x t e))

-- a buffer that is long enough
fits : (new out : List ℕ) → length new ≤ length out → writes new out ≡ record { answer = written (length new); out = over new out }
fits new out l = rw (le-ltb (length out) (length new) l, writes)

-- an accepted table is printed where there is room
pub prints : (t out : List ℕ) (p : Program Plain) → verdict sequential t ≡ accepted p → length (text p) ≤ length out
    → print_call t out ≡ record { answer = written (length (text p)); out = over (text p) out }
unfolding print_call
prints t out p e l = ap (λ v. print_as v out) e ∙ fits (text p) out l

-- WHAT IS PRINTED IS READ BACK, to the byte.
pub printed_read : (t out back : List ℕ) (p : Program Plain) → Bytes t → verdict sequential t ≡ accepted p → length (text p) ≤ length out
    → read_text_call (take (print_call t out).answer.length (print_call t out).out) back ≡ writes t back
printed_read t out back p h e l =
    let printed = prints t out p e l in
    let same : take (print_call t out).answer.length (print_call t out).out ≡ text p =
    ap (λ w. take w.answer.length w.out) printed ∙ take-append_seam (text p) (drop (length (text p)) out)
    in
    reads _ t back (record { bytes = h; p = p; read = e; same = sym same })
