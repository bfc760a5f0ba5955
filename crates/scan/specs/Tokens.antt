-- The code part of a table as a flat row of tokens: each mark with the numbers that follow it.
use Rattle.std.specs.Prelude.{ℕ, ◌+◌, ◌*◌, List, [], ◌∷◌, ◌++◌, length, get_or, replicate, eqb, ltb}
use Rattle.value.specs.Maybe.{pick}
use Rattle.value.specs.declared.Value.TheVariants.{Whole, Location, Truth}
use Rattle.scan.specs.declared.tokens.Token.{Token}
use Rattle.scan.specs.declared.tokens.Token.TheVariants as T
use Rattle.format.specs.Syntax.{Expr, constant, local, one, two, Instr, assign, write, read, while, if, call, atomic, select, Block, end, step}

-- ---- of bytes

-- the number of two bytes, low byte first
abbrev pub two_at : List ℕ → ℕ → ℕ
two_at t i = get_or t i 0 + 256 * get_or t (i + 1) 0

-- of four
abbrev pub four_at : List ℕ → ℕ → ℕ
four_at t i = two_at t i + 65536 * two_at t (i + 2)

-- the token at i, by its mark
abbrev pub token_of : ℕ → List ℕ → ℕ → Token
token_of m t i =
    pick (eqb m 0x00) T.Stop
    (pick (eqb m 0x02) (T.Location (two_at t (i + 1)))
    (pick (eqb m 0x05) (T.Local (get_or t (i + 1) 0))
    (pick (eqb m 0x20) (T.Assign (get_or t (i + 1) 0))
    (pick (eqb m 0x21) (T.Write (get_or t (i + 1) 0))
    (pick (eqb m 0x22) (T.Read (get_or t (i + 1) 0) (get_or t (i + 2) 0))
    (pick (eqb m 0x23) T.While
    (pick (eqb m 0x24) T.If
    (pick (eqb m 0x25) (T.Call (two_at t (i + 1)) (get_or t (i + 3) 0))
    (pick (eqb m 0x26) T.Atomic
    (pick (eqb m 0x27) (T.Select (two_at t (i + 1)) (two_at t (i + 3)))
    T.Plain))))))))))

-- and by the byte there
unfoldable pub token_at : List ℕ → ℕ → Token
token_at t i = token_of (get_or t i 0) t i

-- how many bytes a token has, by its mark 00 to 27
abbrev pub sizes : List ℕ
sizes = 1 ∷ 5 ∷ 3 ∷ 1 ∷ 1 ∷ 2 ∷ replicate 26 1 ++ (2 ∷ 2 ∷ 3 ∷ 1 ∷ 1 ∷ 4 ∷ 1 ∷ 5 ∷ [])

-- by any mark
abbrev pub size_of : ℕ → ℕ
size_of m = pick (ltb m 0x28) (get_or sizes m 0) 1

-- and by the byte at i
unfoldable pub size_at : List ℕ → ℕ → ℕ
size_at t i = size_of (get_or t i 0)

-- ---- of programs

-- the tokens of an expression
abbrev pub tokens_e : Expr → List Token
tokens_e (constant (Whole z)) = T.Plain ∷ []
tokens_e (constant (Location l)) = T.Location l ∷ []
tokens_e (constant (Truth b)) = T.Plain ∷ []
tokens_e (local x) = T.Local x ∷ []
tokens_e (one o a) = T.Plain ∷ tokens_e a
tokens_e (two o a b) = T.Plain ∷ tokens_e a ++ tokens_e b

-- of several
abbrev pub tokens_es : List Expr → List Token
tokens_es [] = []
tokens_es (e ∷ es) = tokens_e e ++ tokens_es es

abbrev mutual
  -- of an instruction
  pub tokens_i : {A : Type 0} → Instr A → List Token
  tokens_i (assign x e) = T.Assign x ∷ tokens_e e
  tokens_i (write y o e) = T.Write y ∷ tokens_e o ++ tokens_e e
  tokens_i (read x y o) = T.Read x y ∷ tokens_e o
  tokens_i (while e b) = T.While ∷ tokens_e e ++ tokens b
  tokens_i (if e b c) = T.If ∷ tokens_e e ++ (tokens b ++ tokens c)
  tokens_i (call m es) = T.Call m (length es) ∷ tokens_es es
  tokens_i (atomic b) = T.Atomic ∷ tokens b
  tokens_i (select a b) = T.Select a b ∷ []

  -- of a block
  pub tokens : {A : Type 0} → Block A → List Token
  tokens end = T.Stop ∷ []
  tokens (step a i b) = tokens_i i ++ tokens b
