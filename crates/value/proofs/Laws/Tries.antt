-- What is there or lacks for a reason, taken apart; and what is left of it without the reason.
use Rattle.std.specs.Prelude.{ℕ, ◌≡◌, refl, Bool, true, false}
use Rattle.std.proofs.Common.{arith, sym}
use Rattle.value.specs.Maybe.{Maybe, is, nothing, ◌>>=◌}
use Rattle.value.specs.Try.{Try, has, lacks, ◌⟫◌, provided, or_lacks}
use Rattle.value.proofs.Laws.Maybes.{missing}
use Rattle.value.specs.declared.Reason.{Reason}

-- what is there is one thing
pub has_inj : {A : Type 0} {a b : A} → has a ≡ has b → a ≡ b
has_inj e = cc

-- and so is a reason
pub lacks_inj : {A : Type 0} {q r : Reason} → ◌≡◌ {A = Try A} (lacks q) (lacks r) → q ≡ r
lacks_inj e = cc

-- what lacks is not there
pub lacking : {A G : Type 0} {a : A} {r : Reason} → lacks r ≡ has a → G
lacking e = let z : ◌≡◌ {A = ℕ} 0 1 = cc in absurd (omega arith)

-- a chain that comes to something comes to something at each link
pub chain_has : {A B : Type 0} (a : Try A) (f : A → Try B) {b : B} → (a ⟫ f) ≡ has b → (x : A) × (a ≡ has x) × (f x ≡ has b)
chain_has (has x) f e = (x, refl, e)
chain_has (lacks r) f e = lacking e

-- one that lacks stops at its first link for that reason, or goes on from there to it
pub chain_stops : {A B G : Type 0} (a : Try A) (f : A → Try B) {r : Reason} → (a ⟫ f) ≡ lacks r → (a ≡ lacks r → G)
    → ((x : A) → a ≡ has x → f x ≡ lacks r → G) → G
chain_stops (has x) f e g h = h x refl e
chain_stops (lacks q) f e g h = g (rw (lacks_inj e) refl)

-- chains that go on alike are alike
pub chain_same : {A B : Type 0} (m : Try A) (f g : A → Try B) → ((x : A) → f x ≡ g x) → (m ⟫ f) ≡ (m ⟫ g)
chain_same (has x) f g h = h x
chain_same (lacks r) f g h = refl

-- something that a test lets through: the test passes
pub provided_has : {A : Type 0} (b : Bool) (r : Reason) (a : A) {c : A} → provided b r a ≡ has c → (b ≡ true) × (a ≡ c)
provided_has true r a e = (refl, has_inj e)
provided_has false r a e = lacking e

-- nothing comes through a test: it fails, and that is the reason
pub provided_stops : {A : Type 0} (b : Bool) (r : Reason) (a : A) {q : Reason} → provided b r a ≡ lacks q → (b ≡ false) × (r ≡ q)
provided_stops true r a e = let z : ◌≡◌ {A = ℕ} 0 1 = cc in absurd (omega arith)
provided_stops false r a e = (refl, lacks_inj e)

-- what might have been missing was there
pub or_lacks_has : {A : Type 0} (r : Reason) (m : Maybe A) {a : A} → or_lacks r m ≡ has a → m ≡ is a
or_lacks_has r (is x) e = cc
or_lacks_has r nothing e = lacking e

-- or it was missing, and that is the reason
pub or_lacks_stops : {A : Type 0} (r : Reason) (m : Maybe A) {q : Reason} → or_lacks r m ≡ lacks q → (m ≡ nothing) × (r ≡ q)
or_lacks_stops r (is x) e = let z : ◌≡◌ {A = ℕ} 0 1 = cc in absurd (omega arith)
or_lacks_stops r nothing e = (refl, lacks_inj e)

-- ---- without the reason

-- what is there, or nothing
abbrev pub forget : {A : Type 0} → Try A → Maybe A
forget (has a) = is a
forget (lacks r) = nothing

-- it is there for both or for neither
pub forget_is : {A : Type 0} (t : Try A) {a : A} → forget t ≡ is a → t ≡ has a
forget_is (has x) e = cc
forget_is (lacks r) e = missing e

-- a chain is forgotten link by link
pub forget_chain : {A B : Type 0} (m : Try A) (f : A → Try B) (n : Maybe A) (g : A → Maybe B)
    → forget m ≡ n → ((x : A) → forget (f x) ≡ g x) → forget (m ⟫ f) ≡ (n >>= g)
forget_chain (has x) f n g e h = rw (sym e) (h x)
forget_chain (lacks r) f n g e h = rw (sym e) refl
