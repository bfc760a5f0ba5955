-- The table of marks: each byte is the mark that the table says.
use Rattle.std.specs.Prelude.{ℕ, ◌≡◌, refl, Bool, true, eqb}
use Rattle.value.specs.Values.{One, not, neg, Two, add, sub, mul, less, equal, and}
use Rattle.value.specs.Marks.{mark₁, mark₂, Mark, whole_mark, location_mark, no_mark, yes_mark, local_mark, one_mark, two_mark, no_expr, marks, mark_of}
use Rattle.value.proofs.Laws.Tables.{looked_up}

-- ---- each mark has its byte

-- an operator's mark is found in the table
pub mark₁_marks : (o : One) → mark_of (mark₁ o) ≡ one_mark o
mark₁_marks not = refl
mark₁_marks neg = refl

-- that of two operands too
pub mark₂_marks : (o : Two) → mark_of (mark₂ o) ≡ two_mark o
mark₂_marks add = refl
mark₂_marks sub = refl
mark₂_marks mul = refl
mark₂_marks less = refl
mark₂_marks equal = refl
mark₂_marks and = refl

-- is this the byte of the mark
abbrev pub marks? : ℕ → Mark → Bool
marks? m whole_mark = eqb m 0x01
marks? m location_mark = eqb m 0x02
marks? m no_mark = eqb m 0x03
marks? m yes_mark = eqb m 0x04
marks? m local_mark = eqb m 0x05
marks? m (one_mark o) = eqb m (mark₁ o)
marks? m (two_mark o) = eqb m (mark₂ o)
marks? m no_expr = true

-- each byte is that of the mark in the table
pub mark_right : (m : ℕ) → marks? m (mark_of m) ≡ true
mark_right m = looked_up marks? marks no_expr (λ n. refl) refl m
