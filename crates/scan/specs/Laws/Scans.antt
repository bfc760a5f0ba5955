-- A loop over the tokens from a position up to another: what is answered from here on is the answer from the start.
use Rattle.std.specs.Prelude.{ℕ, ◌+◌, ◌≤◌, ◌<◌, ◌≡◌, refl, List, [], ◌∷◌}
use Rattle.std.proofs.Common.{arith, sym, ap, subst, ◌∙◌}
use Rattle.scan.specs.declared.tokens.Token.{Token}
use Rattle.scan.specs.Tokens.{token_at, size_at}
use Rattle.scan.specs.Laws.Tokens.{Row, done, more, row_le}

-- r is what `value` gives of the tokens from i up to e
pub record Scans {B : Type 0} (t : List ℕ) (e : ℕ) (value : List Token → B) (i : ℕ) (r : B) : Type 0 where
  pub gives : (ks : List Token) → Row t i ks e → r ≡ value ks

-- what `then` gives from k on is what `value` gives from i on
pub record From {B : Type 0} (t : List ℕ) (e : ℕ) (value : List Token → B) (i : ℕ) (then : List Token → B) (k : ℕ) : Type 0 where
  pub back : (r : B) → Scans t e then k r → Scans t e value i r

-- there is a token at i
pub next_token : {t : List ℕ} {i e : ℕ} {ks : List Token} → i < e → Row t i ks e
    → (ls : List Token) × (ks ≡ token_at t i ∷ ls) × Row t (i + size_at t i) ls e
next_token l done = absurd (omega arith)
next_token {t} {e = e} l (more {ks = ks} a k z r) = (ks, ap (◌∷ ks) (sym k), subst (λ (n : ℕ). Row t n ks e) (sym z) r)

-- there is none
pub no_token : {t : List ℕ} {i e : ℕ} {ks : List Token} → e ≤ i → Row t i ks e → ks ≡ []
no_token l done = refl
no_token l (more a k z r) = absurd (omega (arith, row_le r))

module _ {B : Type 0} {t : List ℕ} {e : ℕ} {value : List Token → B} {i : ℕ} where
  -- one token, and then the others
  pub scan_next : {then : List Token → B} {r : B} → i < e → ((ks : List Token) → value (token_at t i ∷ ks) ≡ then ks)
      → Scans t e then (i + size_at t i) r → Scans t e value i r
  scan_next l same s = record {
    gives = λ ks row.
        let n : (ls : List Token) × (ks ≡ token_at t i ∷ ls) × Row t (i + size_at t i) ls e = next_token l row in
        s.gives n.0 n.2 ∙ sym (same n.0) ∙ ap value (sym n.1);
  }

  -- one token that decides
  pub scan_stop : {r : B} → i < e → ((ks : List Token) → value (token_at t i ∷ ks) ≡ r) → Scans t e value i r
  scan_stop l same = record {
    gives = λ ks row.
        let n : (ls : List Token) × (ks ≡ token_at t i ∷ ls) × Row t (i + size_at t i) ls e = next_token l row in
        sym (ap value n.1 ∙ same n.0);
  }

  -- no token
  pub scan_end : {r : B} → e ≤ i → r ≡ value [] → Scans t e value i r
  scan_end l same = record { gives = λ ks row. same ∙ ap value (sym (no_token l row)) }

module _ {B : Type 0} {t : List ℕ} {e : ℕ} {value : List Token → B} {i : ℕ} where
  -- the loop begins
  pub from_start : From t e value i value i
  from_start = record { back = λ r s. s }

  -- it goes on behind a token
  pub from_next : {then : List Token → B} {k : ℕ} (after : List Token → B) → From t e value i then k → k < e
      → ((ks : List Token) → then (token_at t k ∷ ks) ≡ after ks) → From t e value i after (k + size_at t k)
  from_next after f l same = record { back = λ r s. f.back r (scan_next l same s) }

  -- it stops at a token
  pub from_stop : {then : List Token → B} {k : ℕ} {r : B} → From t e value i then k → k < e → ((ks : List Token) → then (token_at t k ∷ ks) ≡ r)
      → Scans t e value i r
  from_stop f l same = f.back _ (scan_stop l same)

  -- it ends
  pub from_end : {then : List Token → B} {k : ℕ} {r : B} → From t e value i then k → e ≤ k → r ≡ then [] → Scans t e value i r
  from_end f l same = f.back _ (scan_end l same)
