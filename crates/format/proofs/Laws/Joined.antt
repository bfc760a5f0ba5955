-- One block after another: its first label, its names, what is allowed in it, its calls and its bytes.
use Rattle.std.specs.Prelude.{ℕ, ◌+◌, ◌≡◌, refl, true, length}
use Rattle.std.proofs.Common.{arith, length-append}
use Rattle.value.proofs.Laws.Tests.{both_passed}
use Rattle.value.proofs.Laws.Lists.{In, in_front, in_back, in_either}
use Rattle.format.specs.Syntax.{Block, end, step, ◌⊕◌, Program}
use Rattle.format.specs.Encode.{instr, block}
use Rattle.format.specs.Labels.{first}
use Rattle.format.specs.Rules.{Here, allowed, allowed_i, named, named_i, callees, callees_i}

-- the label that one block after another begins with
pub first_append : (k : ℕ) (b c : Block ℕ) → first k (b ⊕ c) ≡ first (first k c) b
first_append k end c = refl
first_append k (step l i b) c = refl

-- names of one block after another
pub named_append : {A : Type 0} (p : Program A) (X : ℕ) (b c : Block A) → named p X b ≡ true → named p X c ≡ true → named p X (b ⊕ c) ≡ true
named_append p X end c g h = h
named_append p X (step l i b) c g h =
    let q : (named_i p X i ≡ true) × (named p X b ≡ true) = both_passed (named_i p X i) (named p X b) g in
    rw q.0 (named_append p X b c q.1 h)

-- what is allowed, of one block after another
pub allowed_append : (w : Here) (b c : Block ℕ) → allowed w b ≡ true → allowed w c ≡ true → allowed w (b ⊕ c) ≡ true
allowed_append w end c g h = h
allowed_append w (step l i b) c g h =
    let q : (allowed_i w i ≡ true) × (allowed w b ≡ true) = both_passed (allowed_i w i) (allowed w b) g in
    rw q.0 (allowed_append w b c q.1 h)

-- the calls of one block after another are those of the two
pub in_joined : {G : Type 0} {q : ℕ} (b c : Block ℕ) → In q (callees (b ⊕ c)) → (In q (callees b) → G) → (In q (callees c) → G) → G
in_joined end c p f g = g p
in_joined (step a i b) c p f g = in_either (callees_i i) (callees (b ⊕ c)) p (λ r. f (in_front (callees_i i) (callees b) r))
    (λ r. in_joined b c r (λ o. f (in_back (callees_i i) (callees b) o)) g)

-- the bytes of one block after another: the first's end is left out
pub length_join : (b c : Block ℕ) → length (block (b ⊕ c)) + 1 ≡ length (block b) + length (block c)
length_join end c = omega arith
length_join (step a i b) c = omega (arith, length-append (instr i) (block (b ⊕ c)), length-append (instr i) (block b), length_join b c)
