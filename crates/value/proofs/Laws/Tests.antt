-- Tests that compute, and the statements that they decide.
use Rattle.std.specs.Prelude.{ℕ, ◌≤◌, ◌<◌, ◌≡◌, refl, Bool, true, false, leb, ltb, eqb}
use Rattle.std.proofs.Common.{arith, sym, leb-true, le-leb, ltb-true, lt-ltb, eqb-true, eq-eqb}
use Rattle.value.specs.Maybe.{Maybe, is, nothing, there, both, either}
use Rattle.value.proofs.Laws.Maybes.{missing}

-- the test passes exactly if the statement holds
pub record Decides (b : Bool) (P : Type 0) : Type 0 where
  pub so : b ≡ true → P
  pub of : P → b ≡ true

-- a test that fails does not pass
pub never : false ≡ true → ⊥
never e = let no : ◌≡◌ {A = ℕ} 0 1 = cc in omega arith

-- two tests pass
pub both_passed : (a b : Bool) → both a b ≡ true → (a ≡ true) × (b ≡ true)
both_passed true b e = (refl, e)
both_passed false b e = (e, (cc))

-- the other way
pub pass_both : {a b : Bool} → a ≡ true → b ≡ true → both a b ≡ true
pass_both e f = rw (e, f)

-- one of two tests passes
pub either_passed : {G : Type 0} (a b : Bool) → either a b ≡ true → (a ≡ true → G) → (b ≡ true → G) → G
either_passed true b e f g = f refl
either_passed false b e f g = g e

-- the first does
pub either_left : {a : Bool} (b : Bool) → a ≡ true → either a b ≡ true
either_left b e = rw e

-- the second does
pub either_right : (a : Bool) {b : Bool} → b ≡ true → either a b ≡ true
either_right true e = refl
either_right false e = e

-- neither of two tests passes
pub either_failed : (a b : Bool) → either a b ≡ false → (a ≡ false) × (b ≡ false)
either_failed true b e = absurd (never (sym e))
either_failed false b e = (refl, e)

-- a test passes or fails
pub by_test : {G : Type 0} (b : Bool) → (b ≡ true → G) → (b ≡ false → G) → G
by_test true f g = f refl
by_test false f g = g refl

-- a test decides that it passes
pub itself : (b : Bool) → Decides b (b ≡ true)
itself b = record { so = λ e. e; of = λ e. e }

-- no test
pub always : Decides true (Unit {0})
always = record { so = λ e. tt; of = λ t. refl }

-- a test that fails
pub never? : Decides false ⊥
never? = record { so = never; of = λ no. absurd no }

-- is something there
pub there? : {A : Type 0} (m : Maybe A) → Decides (there m) ((a : A) × (m ≡ is a))
there? (is a) = record { so = λ e. (a, refl); of = λ h. refl }
there? nothing = record { so = λ e. absurd (never e); of = λ h. missing h.1 }

-- a test decides what its statement is worth
pub decides_as : {b : Bool} {P Q : Type 0} → (P → Q) → (Q → P) → Decides b P → Decides b Q
decides_as f g d = record { so = λ e. f (d.so e); of = λ q. d.of (g q) }

-- two tests decide two statements
infixr 40 ◌and◌
pub ◌and◌ : {a b : Bool} {P Q : Type 0} → Decides a P → Decides b Q → Decides (both a b) (P × Q)
◌and◌ {a} {b} c d = record {
  so = λ e. let parts : (a ≡ true) × (b ≡ true) = both_passed a b e in (c.so parts.0, d.so parts.1);
  of = λ h. pass_both (c.of h.0) (d.of h.1);
}

-- the tests of numbers
pub le? : (m n : ℕ) → Decides (leb m n) (m ≤ n)
le? m n = record { so = leb-true m n; of = le-leb m n }

-- below
pub lt? : (m n : ℕ) → Decides (ltb m n) (m < n)
lt? m n = record { so = ltb-true m n; of = lt-ltb m n }

-- equal
pub eq? : (m n : ℕ) → Decides (eqb m n) (m ≡ n)
eq? m n = record { so = eqb-true m n; of = eq-eqb m n }

-- neither test: the other way
pub either_false : (a : Bool) → either a false ≡ a
either_false true = refl
either_false false = refl
