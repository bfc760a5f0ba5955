-- Answers of the bench, worked by hand from request #102.
use Rattle.std.specs.Prelude.{ℕ, ◌≡◌, refl, true, false, List, [], ◌∷◌, ◌++◌, replicate, pos}
use Rattle.value.specs.Values.{not, add, sub, equal}
use Rattle.value.specs.declared.Value.TheVariants.{Whole, Location}
use Rattle.format.specs.Syntax.{Expr, constant, local, one, two, Instr, assign, write, read, if, atomic, Block, end, step, Program, Plain, concurrent}
use Rattle.format.specs.Encode.{table}
use Rattle.allotments.specs.Allotments.{counts, allotted, schedule_of}
use Rattle.allotments.specs.Bench.{Outcome, benched, bench_call}

-- "the first thread's first round varying slowest"
pub some_counts : (counts 5 4 369 ≡ 2 ∷ 4 ∷ 3 ∷ 4 ∷ []) × (counts 31 4 2083 ≡ 0 ∷ 2 ∷ 5 ∷ 6 ∷ []) × (counts 4 6 2803 ≡ 2 ∷ 2 ∷ 3 ∷ 3 ∷ 0 ∷ 3 ∷ [])
some_counts = (refl, refl, refl)

-- round 1 thread 0, round 1 thread 1, round 2 thread 0, ..
pub some_steps : allotted 2 0 (0 ∷ 2 ∷ 3 ∷ 1 ∷ []) ≡ 1 ∷ 1 ∷ 0 ∷ 0 ∷ 0 ∷ 1 ∷ []
some_steps = refl

-- ---- programs

-- an instruction, then a block
infixr 55 ◌then◌
abbrev ◌then◌ : Instr Plain → Block Plain → Block Plain
i then b = step tt i b

-- the number n
abbrev num : ℕ → Expr
num n = constant (Whole (pos n))

-- one procedure with these locals, in each of these threads
abbrev single : ℕ → Block Plain → List ℕ → List ℕ → Program Plain
single n b sizes mains = record { procs = record { params = 0; locals = n; body = b } ∷ []; sizes = sizes; mains = mains }

-- B of document 01: p := location 0; v := p[0]; p[0] := v + 1, in two threads
abbrev B : Program Plain
B = single 2 (assign 0 (constant (Location 0)) then read 1 0 (num 0) then write 0 (num 0) (two add (local 1) (num 1)) then end) (1 ∷ []) (0 ∷ 0 ∷ [])

-- x := not 0, in one thread
abbrev N : Program Plain
N = single 1 (assign 0 (one not (num 0)) then end) [] (0 ∷ [])

-- D: it adds like B; "the last of the two to be done looks into a place that is outside exactly if an addition was lost"
abbrev D : Program Plain
D = single 3
    (assign 0 (constant (Location 0)) then
    read 1 0 (num 0) then
    write 0 (num 0) (two add (local 1) (num 1)) then
    assign 2 (constant (Location 1)) then
    atomic (read 1 2 (num 0) then write 2 (num 0) (two add (local 1) (num 1)) then end) then
    if (two equal (local 1) (num 1)) (read 1 0 (num 0) then read 1 0 (two sub (num 2) (local 1)) then end) end then
    end)
    (1 ∷ 1 ∷ []) (0 ∷ 0 ∷ [])

-- n bytes of a lent buffer
abbrev lent : ℕ → List ℕ
lent n = replicate n 9

-- the cell of a number below 256
abbrev cell : ℕ → List ℕ
cell n = 1 ∷ n ∷ 0 ∷ 0 ∷ 0 ∷ []

-- "none", and the cells
abbrev none : List ℕ → Outcome
none cs = record { answer = record { number = 0; found = false; allotment = 0; counts = replicate 19 0 }; cells = cs }

-- an allotment of four counts or fewer that blocks
abbrev found : ℕ → ℕ → ℕ → ℕ → ℕ → List ℕ → Outcome
found i a b c d cs = record { answer = record { number = 0; found = true; allotment = i; counts = a ∷ b ∷ c ∷ d ∷ replicate 15 0 }; cells = cs }

-- a refusal
abbrev refused : ℕ → List ℕ → Outcome
refused n cs = record { answer = record { number = n; found = false; allotment = 0; counts = replicate 19 0 }; cells = cs }

-- a program on the bench, k rounds of 0 to s steps
abbrev on : Program Plain → ℕ → ℕ → List ℕ → Outcome
on p k s cs = bench_call (table concurrent p) k s cs

-- ---- answers

-- B NEVER BLOCKS: "The cell buffer keeps the last run's cells", which lost an addition in two rounds of two steps; bytes behind them stay
pub B-none :
    (on B 1 1 (lent 5) ≡ none (cell 0))
    × (on B 1 4 (lent 7) ≡ none (cell 2 ++ lent 2))
    × (on B 2 2 (lent 5) ≡ none (cell 1))
B-none = (refl, refl, refl)

-- ONE THREAD THAT BLOCKS AT ITS FIRST STEP, allotted to its last round
pub N-found : (on N 1 1 [] ≡ found 1 1 0 0 0 []) × (on N 3 64 [] ≡ found 1 0 0 1 0 [])
N-found = (refl, refl)

-- D BLOCKS ONLY AFTER A LOST UPDATE: not in three steps a round, and first at 2 4 3 4 in four; "(as the run call leaves them: before the blocked step)"
pub D-found :
    (on D 2 3 (lent 10) ≡ none (cell 2 ++ cell 2))
    × (on D 2 4 (lent 10) ≡ found 369 2 4 3 4 (cell 1 ++ cell 2))
    × (on D 2 6 (lent 11) ≡ found 139 0 2 5 6 (cell 1 ++ (cell 2 ++ lent 1)))
    × (schedule_of D (0 ∷ 2 ∷ 5 ∷ 6 ∷ []) ≡ 1 ∷ 1 ∷ 0 ∷ 0 ∷ 0 ∷ 0 ∷ 0 ∷ 1 ∷ 1 ∷ 1 ∷ 1 ∷ 1 ∷ 1 ∷ [])
D-found = (refl, refl, refl, refl)

-- A STEP OF A FINISHED THREAD IS LEFT OUT: N's twin that does nothing is finished after one step
pub left_out : schedule_of (single 0 end [] (0 ∷ 0 ∷ [])) (2 ∷ 3 ∷ 1 ∷ 2 ∷ []) ≡ 0 ∷ 1 ∷ []
left_out = refl

-- 13: "k below 1, s not 1..64, or more than 1,000,000 allotments"
pub too_many :
    (benched 2 3 9 ≡ true) × (benched 2 3 10 ≡ false) × (benched 2 2 30 ≡ true) × (benched 2 2 31 ≡ false)
    × (benched 1 19 1 ≡ true) × (benched 1 20 1 ≡ false) × (benched 1 1 64 ≡ true) × (benched 1 1 65 ≡ false)
    × (benched 1 1 0 ≡ false) × (benched 1 0 1 ≡ false)
too_many = (refl, refl, refl, refl, refl, refl, refl, refl, refl, refl)

-- "after 8; 12 as in a run, after 13"; "A refusal .. writes nothing"
pub refusals :
    (on B 0 1 (lent 4) ≡ refused 13 (lent 4))
    × (on B 1 1 (lent 4) ≡ refused 12 (lent 4))
    × (bench_call [] 0 0 (lent 4) ≡ refused 1 (lent 4))
    × (on (single 1 (assign 0 (local 0) then end) [] (0 ∷ [])) 0 1 [] ≡ refused 8 [])
refusals = (refl, refl, refl, refl)
