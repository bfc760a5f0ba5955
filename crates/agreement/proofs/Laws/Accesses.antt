-- A read or a write taken apart: its index expression, its pointer, its cell.
use Rattle.std.specs.Prelude.{ℕ, ◌≡◌, refl, ℤ, pos, negsuc}
use Rattle.std.proofs.Common.{sym, ap, ◌∙◌}
use Rattle.value.specs.Try.{Try, has, lacks, ◌⟫◌}
use Rattle.value.specs.Values.{number, place}
use Rattle.value.specs.declared.Value.{Value}
use Rattle.value.specs.declared.Reason.{Reason}
use Rattle.value.proofs.Laws.Tries.{lacks_inj, lacking, chain_has}
use Rattle.format.specs.Syntax.{Expr, local}
use Rattle.semantics.specs.Memory.{Env, eval, index, Memory, cell}

-- the number that an index expression gives
abbrev pub indexed : Env → Expr → Try ℤ
indexed ρ o = eval ρ o ⟫ number

-- the location that a pointer names
abbrev pub pointed : Env → ℕ → Try ℕ
pointed ρ y = eval ρ (local y) ⟫ place

-- a chain that ends well if it comes to its last link
pub last_link : {A B : Type 0} (a : Try A) (f : A → B) {r : Reason} → (a ⟫ λ x. has (f x)) ≡ lacks r → a ≡ lacks r
last_link (has x) f e = lacking (sym e)
last_link (lacks q) f e = ap lacks (lacks_inj e)

-- chains that stop at a common first link, or later for the same reason
pub alike : {A B C : Type 0} (a : Try A) (f : A → Try B) (g : A → Try C) {r : Reason} → ((x : A) → f x ≡ lacks r → g x ≡ lacks r)
    → (a ⟫ f) ≡ lacks r → (a ⟫ g) ≡ lacks r
alike (has x) f g h e = h x e
alike (lacks q) f g h e = ap lacks (lacks_inj e)

-- cell v at index i of location l is accessed, and then b comes of it
pub record Access {B : Type 0} (io : Try ℤ) (ly : Try ℕ) (η : Memory) (f : ℕ → ℕ → Value → Try B) (b : B) : Type 0 where
  pub i : ℕ
  pub l : ℕ
  pub v : Value
  pub index : io ≡ has (pos i)
  pub pointer : ly ≡ has l
  pub there : cell η l i ≡ has v
  pub then : f i l v ≡ has b

-- an access that comes to something
pub access : {B : Type 0} (io : Try ℤ) (ly : Try ℕ) (η : Memory) (f : ℕ → ℕ → Value → Try B) {b : B}
    → (io ⟫ λ z. ly ⟫ λ l. index z ⟫ λ i. cell η l i ⟫ f i l) ≡ has b → Access io ly η f b
access (has (pos i)) (has l) η f e =
    let c = chain_has (cell η l i) (f i l) e in
    record { i = i; l = l; v = c.0; index = refl; pointer = refl; there = c.1; then = c.2 }
access (has (negsuc n)) (has l) η f e = lacking e
access (has z) (lacks r) η f e = lacking e
access (lacks r) ly η f e = lacking e

-- one that lacks a cell in memory η lacks it in η' for the same reason, whatever was to be done with it
pub access_lacks : {B : Type 0} (io : Try ℤ) (ly : Try ℕ) (η η' : Memory) (f : ℕ → ℕ → Value → Try B) {r : Reason}
    → ((a j : ℕ) → ly ≡ has a → cell η a j ≡ cell η' a j)
    → (io ⟫ λ z. ly ⟫ λ a. index z ⟫ λ j. cell η a j) ≡ lacks r → (io ⟫ λ z. ly ⟫ λ a. index z ⟫ λ j. cell η' a j ⟫ f j a) ≡ lacks r
access_lacks (has (pos j)) (has a) η η' f same e = rw (sym (same a j refl) ∙ e)
access_lacks (has (negsuc n)) (has a) η η' f same e = ap lacks (lacks_inj e)
access_lacks (has z) (lacks q) η η' f same e = ap lacks (lacks_inj e)
access_lacks (lacks q) ly η η' f same e = ap lacks (lacks_inj e)

-- one that ends well if it comes to the cell
pub access_last : {B : Type 0} (io : Try ℤ) (ly : Try ℕ) (η : Memory) (f : ℕ → ℕ → Value → B) {r : Reason}
    → (io ⟫ λ z. ly ⟫ λ a. index z ⟫ λ j. cell η a j ⟫ λ v. has (f j a v)) ≡ lacks r → (io ⟫ λ z. ly ⟫ λ a. index z ⟫ λ j. cell η a j) ≡ lacks r
access_last (has (pos j)) (has a) η f e = last_link (cell η a j) (f j a) e
access_last (has (negsuc n)) (has a) η f e = ap lacks (lacks_inj e)
access_last (has z) (lacks q) η f e = ap lacks (lacks_inj e)
access_last (lacks q) ly η f e = ap lacks (lacks_inj e)
