-- Document 01, "Numbers of refusal": for each bound the last number that passes and the first that does not. Each line is computed.
use Rattle.std.specs.Prelude.{ℕ, zero, suc, ◌≡◌, refl, List, [], ◌∷◌, Bool, true, false, replicate}
use Rattle.value.specs.Values.{not}
use Rattle.value.specs.declared.Value.TheVariants.{Truth}
use Rattle.format.specs.Syntax.{Expr, constant, one, assign, while, Block, end, step, Program, Plain, Kind, concurrent, sequential}
use Rattle.format.specs.Encode.{Head, table}
use Rattle.format.specs.Rules.{right_counts, right_records}
use Rattle.format.specs.Calls.{read_call}

-- ---- 2: bytes, procedures, locations, threads

-- are so many right
abbrev counted : Kind → ℕ → ℕ → ℕ → ℕ → Bool
counted k n P M T = right_counts k (replicate n 0) (record { kind = 0; mark = 0; procs = P; places = M; threads = T; back = 0; whole = 0 })

-- "concurrent: over 16,384 bytes, P not 1..16, M over 64, T not 1..32"
pub concurrent_counts :
    (counted concurrent 16384 16 64 32 ≡ true)
    × (counted concurrent 25 1 0 1 ≡ true)
    × (counted concurrent 16385 1 0 1 ≡ false)
    × (counted concurrent 25 0 0 1 ≡ false)
    × (counted concurrent 25 17 0 1 ≡ false)
    × (counted concurrent 25 1 65 1 ≡ false)
    × (counted concurrent 25 1 0 0 ≡ false)
    × (counted concurrent 25 1 0 33 ≡ false)
concurrent_counts = (refl, refl, refl, refl, refl, refl, refl, refl)

-- "Sequential: over 65,536 bytes, P not 1..1,024, M over 512, T not 0"
pub sequential_counts :
    (counted sequential 65536 1024 512 0 ≡ true)
    × (counted sequential 25 1 0 0 ≡ true)
    × (counted sequential 65537 1 0 0 ≡ false)
    × (counted sequential 25 0 0 0 ≡ false)
    × (counted sequential 25 1025 0 0 ≡ false)
    × (counted sequential 25 1 513 0 ≡ false)
    × (counted sequential 25 1 0 1 ≡ false)
sequential_counts = (refl, refl, refl, refl, refl, refl, refl)

-- ---- 3: parameters and locals, sizes, mains

-- a procedure's record
abbrev of : ℕ → ℕ → Head
of params locals = record { params = params; locals = locals; at = 0 }

-- are these right
abbrev recorded : Kind → List Head → List ℕ → List ℕ → Bool
recorded k heads sizes mains = right_records k (record { heads = heads; sizes = sizes; mains = mains })

-- "parameters over locals; locals over 16 ..; size not 1..256; all sizes together over 2,048 ..; a main that is not below P or has parameters"
pub concurrent_records :
    (recorded concurrent (of 0 0 ∷ of 16 16 ∷ []) (1 ∷ 255 ∷ replicate 7 256) (0 ∷ []) ≡ true)
    × (recorded concurrent (of 0 0 ∷ of 3 2 ∷ []) [] (0 ∷ []) ≡ false)
    × (recorded concurrent (of 0 0 ∷ of 0 17 ∷ []) [] (0 ∷ []) ≡ false)
    × (recorded concurrent (of 0 0 ∷ []) (0 ∷ []) (0 ∷ []) ≡ false)
    × (recorded concurrent (of 0 0 ∷ []) (257 ∷ []) (0 ∷ []) ≡ false)
    × (recorded concurrent (of 0 0 ∷ []) (1 ∷ replicate 8 256) (0 ∷ []) ≡ false)
    × (recorded concurrent (of 0 0 ∷ []) [] (0 ∷ 1 ∷ []) ≡ false)
    × (recorded concurrent (of 0 0 ∷ of 1 1 ∷ []) [] (0 ∷ 1 ∷ []) ≡ false)
concurrent_records = (refl, refl, refl, refl, refl, refl, refl, refl)

-- "(sequential 32)", "(sequential 16,384)", "(sequential: procedure 0)"
pub sequential_records :
    (recorded sequential (of 0 32 ∷ []) (replicate 64 256) [] ≡ true)
    × (recorded sequential (of 0 33 ∷ []) [] [] ≡ false)
    × (recorded sequential (of 0 0 ∷ []) (1 ∷ replicate 64 256) [] ≡ false)
    × (recorded sequential (of 1 1 ∷ []) [] [] ≡ false)
sequential_records = (refl, refl, refl, refl)

-- ---- 4 and 6, of tables of one procedure with one local, for one thread

-- true
abbrev yes : Expr
yes = constant (Truth true)

-- what the reader answers
abbrev answered : Block Plain → ℕ
answered b =
    let p : Program Plain = record { procs = record { params = 0; locals = 1; body = b } ∷ []; sizes = []; mains = 0 ∷ [] } in
    (read_call concurrent (table concurrent p)).number

-- true under n operators: n + 1 deep
abbrev negated : ℕ → Expr
negated zero = yes
negated (suc n) = one not (negated n)

-- n loops one in the other: n + 1 blocks deep
abbrev loops : ℕ → Block Plain
loops zero = end
loops (suc n) = step tt (while yes (loops n)) end

-- n instructions: n + 1 labels
abbrev row : ℕ → Block Plain
row zero = end
row (suc n) = step tt (assign 0 yes) (row n)

-- "Depth 16 passes, 17 gives 4": of expressions and of blocks
pub depths :
    (answered (step tt (assign 0 (negated 15)) end) ≡ 0)
    × (answered (step tt (assign 0 (negated 16)) end) ≡ 4)
    × (answered (loops 15) ≡ 0)
    × (answered (loops 16) ≡ 4)
depths = (refl, refl, refl, refl)

-- 1,000 labels pass, 1,001 give 6
pub thousand_labels : (answered (row 999) ≡ 0) × (answered (row 1000) ≡ 6)
thousand_labels = (refl, refl)
