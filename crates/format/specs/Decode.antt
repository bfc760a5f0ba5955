-- The way back from bytes. Laws/ shows that it undoes Encode and accepts nothing else.
use Rattle.std.specs.Prelude.{ℕ, zero, suc, ◌-◌, List, [], ◌∷◌, ◌++◌, true, false, length, get_or, take, drop, replicate, leb}
use Rattle.value.specs.Maybe.{Maybe, is, nothing, ◌>>=◌, when}
use Rattle.value.specs.Values.{unbytes, unword}
use Rattle.value.specs.Marks.{Mark, whole_mark, location_mark, no_mark, yes_mark, local_mark, one_mark, two_mark, no_expr, marks}
use Rattle.value.specs.declared.Value.TheVariants.{Whole, Location, Truth}
use Rattle.format.specs.Syntax.{Expr, constant, local, one, two}
use Rattle.format.specs.Syntax.{Instr, assign, write, read, while, if, call, atomic, select, Block, end, step, Plain}
use Rattle.format.specs.Encode.{Head, Middle, Trailer}

-- what was read, and the bytes after it
abbrev pub Read : Type 0 → Type 0
Read A = Maybe (A × List ℕ)

-- a number of one byte
abbrev pub byte : List ℕ → Read ℕ
byte [] = nothing
byte (b ∷ bs) = is (b, bs)

-- a number of k bytes
abbrev pub number : ℕ → List ℕ → Read ℕ
number k bs = when (leb k (length bs)) (is (unbytes (take k bs), drop k bs))

-- n things, one after the other
abbrev pub times : {A : Type 0} → (List ℕ → Read A) → ℕ → List ℕ → Read (List A)
times item zero bs = is ([], bs)
times item (suc n) bs = item bs >>= λ (a, r). times item n r >>= λ (xs, q). is (a ∷ xs, q)

-- what follows a mark, where `inner` reads an operand
abbrev pub marked : (List ℕ → Read Expr) → Mark → List ℕ → Read Expr
marked inner whole_mark bs = number 4 bs >>= λ (n, r). is (constant (Whole (unword n)), r)
marked inner location_mark bs = number 2 bs >>= λ (n, r). is (constant (Location n), r)
marked inner no_mark bs = is (constant (Truth false), bs)
marked inner yes_mark bs = is (constant (Truth true), bs)
marked inner local_mark bs = byte bs >>= λ (n, r). is (local n, r)
marked inner (one_mark o) bs = inner bs >>= λ (a, r). is (one o a, r)
marked inner (two_mark o) bs = inner bs >>= λ (a, r). inner r >>= λ (b, q). is (two o a b, q)
marked inner no_expr bs = nothing

-- "An expression nests at most 16 deep"
abbrev pub max_depth : ℕ
max_depth = 16

-- an expression at most d deep
abbrev pub expr : ℕ → List ℕ → Read Expr
expr zero bs = nothing
expr (suc d) [] = nothing
expr (suc d) (m ∷ bs) = marked (expr d) (get_or marks m no_expr) bs

-- what an instruction byte begins
pub data Form : Type 0 where
  assign_form write_form read_form while_form if_form call_form atomic_form select_form no_form : Form

-- by the byte, 00 to 27
abbrev pub forms : List Form
forms = replicate 0x20 no_form ++ (assign_form ∷ write_form ∷ read_form ∷ while_form ∷ if_form ∷ call_form ∷ atomic_form ∷ select_form ∷ [])

-- what follows an instruction byte, where `inner` reads a block inside
abbrev pub formed : (List ℕ → Read (Block Plain)) → Form → List ℕ → Read (Instr Plain)
formed inner assign_form bs = byte bs >>= λ (x, r). expr max_depth r >>= λ (e, r). is (assign x e, r)
formed inner write_form bs = byte bs >>= λ (y, r). expr max_depth r >>= λ (o, r). expr max_depth r >>= λ (e, r). is (write y o e, r)
formed inner read_form bs = byte bs >>= λ (x, r). byte r >>= λ (y, r). expr max_depth r >>= λ (o, r). is (read x y o, r)
formed inner while_form bs = expr max_depth bs >>= λ (e, r). inner r >>= λ (b, r). is (while e b, r)
formed inner if_form bs = expr max_depth bs >>= λ (e, r). inner r >>= λ (b, r). inner r >>= λ (c, r). is (if e b c, r)
formed inner call_form bs = number 2 bs >>= λ (m, r). byte r >>= λ (n, r). times (expr max_depth) n r >>= λ (es, r). is (call m es, r)
formed inner atomic_form bs = inner bs >>= λ (b, r). is (atomic b, r)
formed inner select_form bs = number 2 bs >>= λ (a, r). number 2 r >>= λ (b, r). is (select a b, r)
formed inner no_form bs = nothing

-- an instruction, where `inner` reads a block inside
abbrev pub instr : (List ℕ → Read (Block Plain)) → List ℕ → Read (Instr Plain)
instr inner [] = nothing
instr inner (m ∷ bs) = formed inner (get_or forms m no_form) bs

-- instructions up to the byte 00, where `inner` reads a block inside; the number bounds the recursion: the bytes' count is enough
abbrev pub row : (List ℕ → Read (Block Plain)) → ℕ → List ℕ → Read (Block Plain)
row inner zero bs = nothing
row inner (suc f) [] = nothing
row inner (suc f) (zero ∷ bs) = is (end, bs)
row inner (suc f) (suc m ∷ bs) = instr inner (suc m ∷ bs) >>= λ (i, r). row inner f r >>= λ (b, r). is (step tt i b, r)

-- "A body is at depth 1; depth at most 16"
abbrev pub max_nesting : ℕ
max_nesting = 16

-- a block with at most d blocks one in the other
abbrev pub block : ℕ → List ℕ → Read (Block Plain)
block zero bs = nothing
block (suc d) bs = row (block d) (length bs) bs

-- ---- a table

-- what was read, if no bytes are left
abbrev pub finish : {A : Type 0} → Read A → Maybe A
finish nothing = nothing
finish (is got) = elim got.1 [ [] ↦ is got.0 | b ∷ bs ↦ nothing ]

-- the record of a procedure
abbrev pub head : List ℕ → Read Head
head bs = byte bs >>= λ (p, r). byte r >>= λ (l, r). number 4 r >>= λ (a, r). is (record { params = p; locals = l; at = a }, r)

-- the part between the bodies and the trailer: P records, M sizes, T mains
abbrev pub middle : ℕ → ℕ → ℕ → List ℕ → Read Middle
middle P M T bs =
    times head P bs >>= λ (hs, r).
    times (number 2) M r >>= λ (ss, r).
    times (number 2) T r >>= λ (ms, r).
    is (record { heads = hs; sizes = ss; mains = ms }, r)

-- the 16 bytes at the end
abbrev pub trailer : List ℕ → Read Trailer
trailer bs =
    byte bs >>= λ (k, r).
    byte r >>= λ (m, r).
    number 2 r >>= λ (P, r).
    number 2 r >>= λ (M, r).
    number 2 r >>= λ (T, r).
    number 4 r >>= λ (d, r).
    number 4 r >>= λ (n, r).
    is (record { kind = k; mark = m; procs = P; places = M; threads = T; back = d; whole = n }, r)

-- all but the last n bytes, and those
abbrev pub but : ℕ → List ℕ → List ℕ
but n t = take (length t - n) t

-- the last n bytes
abbrev pub last : ℕ → List ℕ → List ℕ
last n t = drop (length t - n) t
