-- The readers by positions: what is read from i on stands there, what stands there is read, and one thing stands there.
use Rattle.std.specs.Prelude.{ℕ, suc, ◌+◌, ◌≤◌, ◌<◌, ◌≡◌, List, [], length, get_or, take, drop}
use Rattle.std.proofs.Common.{arith, sym, ap, ◌∙◌, length-drop, length-append, drop_of_length-le, drop-cons, drop-drop, le-leb}
use Rattle.std.proofs.lemmas.Bool.{lt-leb}
use Rattle.value.specs.Maybe.{is, nothing}
use Rattle.value.specs.Values.{unbytes}
use Rattle.value.proofs.Laws.Maybes.{is_inj}
use Rattle.format.specs.Syntax.{Expr, Instr, Block, Plain}
use Rattle.format.specs.Decode.{Read, byte, number}
use Rattle.format.specs.Decode as D
use Rattle.value.proofs.Laws.Bytes.{Bytes, bytes_drop}
use Rattle.format.proofs.Laws.Reading.{Took, Exact, known_is}
use Rattle.format.proofs.Laws.Exprs.{expr_exact}
use Rattle.format.proofs.Laws.Blocks.{instr_exact, block_exact}
use Rattle.format.proofs.Laws.Stands.{Stands, stands_at, rest_at}
use Rattle.format.proofs.Laws.Grammar.{ExprAt, InstrAt, BlockAt, expr_long, instr_long, block_long}

-- ---- of any exact reader

-- a was read from i on: it stands there up to some j, fits, and the bytes from j on are left
pub record Found {A : Type 0} (write : A → List ℕ) (Fits : A → Type 0) (t : List ℕ) (i : ℕ) (a : A) (rest : List ℕ) : Type 0 where
  pub j : ℕ
  pub stands : Stands t i (write a) j
  pub fits : Fits a
  pub left : rest ≡ drop j t

module _ {A : Type 0} {read : List ℕ → Read A} {write : A → List ℕ} {Fits : A → Type 0} (exact : Exact read write Fits) where
  -- what stands there is read
  pub read_at : {t : List ℕ} {i : ℕ} (a : A) {j : ℕ} → Stands t i (write a) j → Fits a → read (drop i t) ≡ is (a, drop j t)
  read_at a {j} s f = ap read s.same ∙ exact.undoes a f _

  -- what is read, and has a byte, stands there
  pub found_at : (t : List ℕ) (i : ℕ) → Bytes t → (a : A) (rest : List ℕ) → 1 ≤ length (write a) → read (drop i t) ≡ is (a, rest)
      → Found write Fits t i a rest
  found_at t i h a rest some e =
      let took : Took write Fits (drop i t) (a, rest) = known_is (a, rest) e (exact.only (drop i t) (bytes_drop i t h)) in
      let room : i ≤ length t = omega (arith, ap length took.same, length-append (write a) rest, length-drop i t) in
      record { j = _; stands = stands_at t i (write a) rest took.same room; fits = took.fits; left = rest_at t i (write a) rest took.same }

  -- one thing stands there
  pub one_thing : {t : List ℕ} {i : ℕ} (a b : A) {j k : ℕ} → Stands t i (write a) j → Fits a → Stands t i (write b) k → Fits b → (a ≡ b) × (j ≡ k)
  one_thing {t} {i} a b {j} {k} s f u g =
      let first : A × List ℕ = (a, drop j t) in
      let second : A × List ℕ = (b, drop k t) in
      let same : a ≡ b = ap (λ p. p.0) (is_inj {a = first} {b = second} (sym (read_at a s f) ∙ read_at b u g)) in
      (same, s.ends ∙ ap (λ x. i + length (write x)) same ∙ sym u.ends)

-- ---- of expressions, instructions and blocks

module _ {t : List ℕ} {i d : ℕ} where
  -- what stands there is read
  pub expr_read : {e : Expr} {j : ℕ} → ExprAt t i d e j → D.expr d (drop i t) ≡ is (e, drop j t)
  expr_read {e} h = read_at (expr_exact d) e h.stands h.fits

  -- so is an instruction
  pub instr_read : {s : Instr Plain} {j : ℕ} → InstrAt t i d s j → D.instr (D.block d) (drop i t) ≡ is (s, drop j t)
  instr_read {s} h = read_at (instr_exact d (block_exact d)) s h.stands h.fits

  -- and a block
  pub block_read : {b : Block Plain} {j : ℕ} → BlockAt t i d b j → D.block d (drop i t) ≡ is (b, drop j t)
  block_read {b} h = read_at (block_exact d) b h.stands h.fits

  -- one expression stands there, whatever the depths
  pub expr_same_lem : {c : ℕ} {e f : Expr} {j k : ℕ} → ExprAt t i d e j → ExprAt t i c f k → (e ≡ f) × (j ≡ k)
  expr_same_lem {c} {e} {f} h g =
      one_thing (expr_exact (d + c)) e f h.stands (omega (arith, h.fits.0), h.fits.1) g.stands (omega (arith, g.fits.0), g.fits.1)

  -- one instruction
  pub instr_same_lem : {c : ℕ} {s u : Instr Plain} {j k : ℕ} → InstrAt t i d s j → InstrAt t i c u k → (s ≡ u) × (j ≡ k)
  instr_same_lem {c} {s} {u} h g =
      one_thing (instr_exact (d + c) (block_exact (d + c))) s u h.stands (omega (arith, h.fits.0), h.fits.1)
      g.stands (omega (arith, g.fits.0), g.fits.1)

  -- one block
  pub block_same : {c : ℕ} {a b : Block Plain} {j k : ℕ} → BlockAt t i d a j → BlockAt t i c b k → (a ≡ b) × (j ≡ k)
  block_same {c} {a} {b} h g =
      one_thing (block_exact (d + c)) a b h.stands (omega (arith, h.fits.0), h.fits.1) g.stands (omega (arith, g.fits.0), g.fits.1)

module _ (t : List ℕ) (i d : ℕ) (h : Bytes t) where
  -- what is read stands there
  pub expr_found : {e : Expr} {r : List ℕ} → D.expr d (drop i t) ≡ is (e, r) → (j : ℕ) × ExprAt t i d e j × (r ≡ drop j t)
  expr_found {e} {r} q =
      let f = found_at (expr_exact d) t i h e r (expr_long e) q in
      (f.j, record { stands = f.stands; fits = f.fits }, f.left)

  -- so does an instruction
  pub instr_found : {s : Instr Plain} {r : List ℕ} → D.instr (D.block d) (drop i t) ≡ is (s, r) → (j : ℕ) × InstrAt t i d s j × (r ≡ drop j t)
  instr_found {s} {r} q =
      let f = found_at (instr_exact d (block_exact d)) t i h s r (instr_long s) q in
      (f.j, record { stands = f.stands; fits = f.fits }, f.left)

  -- and a block
  pub block_found : {b : Block Plain} {r : List ℕ} → D.block d (drop i t) ≡ is (b, r) → (j : ℕ) × BlockAt t i d b j × (r ≡ drop j t)
  block_found {b} {r} q =
      let f = found_at (block_exact d) t i h b r (block_long b) q in
      (f.j, record { stands = f.stands; fits = f.fits }, f.left)

-- ---- numbers by positions

module _ (t : List ℕ) (j : ℕ) where
  -- a byte that is there
  pub byte_at : j < length t → byte (drop j t) ≡ is (get_or t j 0, drop (j + 1) t)
  byte_at l = let next : j + 1 ≡ suc j = omega arith in rw (drop-cons t j 0 l, next)

  -- and one that is not
  pub byte_past : length t ≤ j → byte (drop j t) ≡ nothing
  byte_past l = let none : drop j t ≡ [] = drop_of_length-le t {i = j} l in rw none

  -- so with numbers of k bytes
  pub number_at_lem : (k : ℕ) → j + k ≤ length t → number k (drop j t) ≡ is (unbytes (take k (drop j t)), drop (j + k) t)
  number_at_lem k l =
      let long : k ≤ length (drop j t) = rw length-drop (omega arith) in
      rw (le-leb k (length (drop j t)) long, drop-drop)

  -- past the end
  pub number_past : (k : ℕ) → length t < j + k → 0 < k → number k (drop j t) ≡ nothing
  number_past k l some =
      let short : length (drop j t) < k = rw length-drop (omega arith) in
      rw (lt-leb k (length (drop j t)) short)
