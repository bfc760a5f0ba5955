-- Request #110: "The next board has 32 workers", worked by hand. Each line is computed.
use Rattle.std.specs.Prelude.{ℕ, zero, suc, ◌≡◌, refl, List, [], ◌∷◌, ◌++◌, length, replicate}
use Rattle.value.specs.Values.{bytes}
use Rattle.format.specs.Syntax.{end, Program, Plain, concurrent, sequential}
use Rattle.format.specs.Encode.{table}
use Rattle.format.specs.Rules.{refused}
use Rattle.format.proofs.Laws.Wider.{old_verdict}
use Rattle.translation.specs.Translate.{translate}
use Rattle.agreement.specs.Line.{finished_word, used_word, refused_word, digits, numbers, line, told, printed}

-- one procedure with an empty body, for n threads
abbrev pub idle : ℕ → Program Plain
idle n = record { procs = record { params = 0; locals = 0; body = end } ∷ []; sizes = []; mains = replicate n 0 }

-- the run program's line for it
abbrev pub idle_line : ℕ → List ℕ → List ℕ
idle_line n ts = printed (bytes 2 (length ts) ++ (ts ++ table concurrent (idle n)))

-- 31, 30 and so on down to 0
abbrev falling : ℕ → List ℕ
falling zero = []
falling (suc n) = n ∷ falling n

-- 32 WORKERS
pub workers :
    -- 87 bytes, copy 1,723
    (length (table concurrent (idle 32)) ≡ 87)
    × (length (table sequential (translate (idle 32))) ≡ 1723)
    -- each worker's one step, the last worker first: "finished 32 2628 0 0 0"
    × (idle_line 32 (falling 32) ≡ finished_word ++ (32 ∷ 51 ∷ 50 ∷ 32 ∷ 50 ∷ 54 ∷ 50 ∷ 56 ∷ 32 ∷ 48 ∷ 32 ∷ 48 ∷ 32 ∷ 48 ∷ 10 ∷ []))
    -- the last worker alone: "used 1 178 0 0 0"
    × (idle_line 32 (31 ∷ []) ≡ used_word ++ (32 ∷ 49 ∷ 32 ∷ 49 ∷ 55 ∷ 56 ∷ 32 ∷ 48 ∷ 32 ∷ 48 ∷ 32 ∷ 48 ∷ 10 ∷ []))
    -- "Number 11 follows the new T"
    × (idle_line 32 (32 ∷ []) ≡ refused_word ++ (32 ∷ 49 ∷ 49 ∷ 10 ∷ []))
    × (idle_line 33 (31 ∷ []) ≡ refused_word ++ (32 ∷ 50 ∷ 10 ∷ []))
    -- an old reader gives 2
    × (old_verdict concurrent (table concurrent (idle 32)) ≡ refused 2)
unfolding digits numbers line told
workers = (refl, refl, refl, refl, refl, refl, refl)
