-- The table by mark byte, as the code uses it. Document 01: "constant table by mark byte 00 to 17: operand count, operand kind and result kind".
use Rattle.std.specs.Prelude.{ℕ, ◌+◌, ◌*◌}
use Rattle.value.specs.Try.{Try, lacks}
use Rattle.value.specs.Values.{not, neg, add, sub, mul, less, equal, and, apply₁, apply₂}
use Rattle.value.specs.Marks.{Mark, whole_mark, location_mark, no_mark, yes_mark, local_mark, one_mark, two_mark, no_expr, mark_of}
use Rattle.value.specs.declared.Value.{Value}
use Rattle.value.specs.declared.Reason.TheVariants.{WrongKind}

-- a mark's operands, their kind, the kind of the result, and the bytes that follow the mark before any operand
pub record Row : Type 0 where
  pub operands : ℕ
  pub takes : ℕ
  pub gives : ℕ
  pub payload : ℕ

-- a row of the table
abbrev pub row : ℕ → ℕ → ℕ → ℕ → Row
row count taken given after = record { operands = count; takes = taken; gives = given; payload = after }

-- the row of a mark; 9 operands: no mark
abbrev pub row_of : Mark → Row
row_of whole_mark = row 0 0 1 4
row_of location_mark = row 0 0 2 2
row_of no_mark = row 0 0 3 0
row_of yes_mark = row 0 0 3 0
row_of local_mark = row 0 0 0 1
row_of (one_mark not) = row 1 3 3 0
row_of (one_mark neg) = row 1 1 1 0
row_of (two_mark add) = row 2 1 1 0
row_of (two_mark sub) = row 2 1 1 0
row_of (two_mark mul) = row 2 1 1 0
row_of (two_mark less) = row 2 1 3 0
row_of (two_mark equal) = row 2 0 3 0
row_of (two_mark and) = row 2 3 3 0
row_of no_expr = row 9 0 0 0

-- what the table says of byte m
abbrev pub operands_of : ℕ → ℕ
operands_of m = (row_of (mark_of m)).operands

-- the kind of its operands
abbrev pub takes_of : ℕ → ℕ
takes_of m = (row_of (mark_of m)).takes

-- the bytes that follow it before any operand
abbrev pub payload_of : ℕ → ℕ
payload_of m = (row_of (mark_of m)).payload

-- a row as one number
abbrev pub packed : Row → ℕ
packed r = 16 * r.operands + 4 * r.gives + r.takes

-- the row of byte m
abbrev pub packed_of : ℕ → ℕ
packed_of m = packed (row_of (mark_of m))

-- ---- the operators by their marks

-- what the operator of a mark gives of one value
abbrev pub applied₁ : Mark → Value → Try Value
applied₁ (one_mark o) v = apply₁ o v
applied₁ (two_mark o) v = lacks WrongKind
applied₁ whole_mark v = lacks WrongKind
applied₁ location_mark v = lacks WrongKind
applied₁ no_mark v = lacks WrongKind
applied₁ yes_mark v = lacks WrongKind
applied₁ local_mark v = lacks WrongKind
applied₁ no_expr v = lacks WrongKind

-- and of two
abbrev pub applied₂ : Mark → Value → Value → Try Value
applied₂ (two_mark o) v w = apply₂ o v w
applied₂ (one_mark o) v w = lacks WrongKind
applied₂ whole_mark v w = lacks WrongKind
applied₂ location_mark v w = lacks WrongKind
applied₂ no_mark v w = lacks WrongKind
applied₂ yes_mark v w = lacks WrongKind
applied₂ local_mark v w = lacks WrongKind
applied₂ no_expr v w = lacks WrongKind
