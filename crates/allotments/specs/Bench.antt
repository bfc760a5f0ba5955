-- What the bench answers and leaves in the lent buffer, for every input. Request #102: "Refusals: 13 for k below 1, s not 1..64, or more than
-- 1,000,000 allotments, after 8; 12 as in a run, after 13."
use Rattle.std.specs.Prelude.{ℕ, zero, suc, ◌*◌, ◌-◌, ◌^◌, List, Bool, true, false, length, replicate, leb}
use Rattle.value.specs.Maybe.{Maybe, is, nothing, both}
use Rattle.value.specs.Lists.{over}
use Rattle.format.specs.Syntax.{Program, Plain, concurrent}
use Rattle.format.specs.Rules.{Verdict, refused, accepted, verdict}
use Rattle.semantics.specs.Threads as P
use Rattle.semantics.specs.Buffers.{cells}
use Rattle.semantics.specs.Calls.{roomy}
use Rattle.allotments.specs.declared.BenchAnswer.{BenchAnswer}
use Rattle.allotments.specs.Allotments.{counts, run_of, blocks}

-- "s not 1..64"
abbrev pub most_steps : ℕ
most_steps = 64

-- "more than 1,000,000 allotments"
abbrev pub most_allotments : ℕ
most_allotments = 1000000

-- "at most 19 counts, the rest 0"
abbrev pub places : ℕ
places = 19

-- how many allotments there are, for T threads
abbrev pub allotments : ℕ → ℕ → ℕ → ℕ
allotments T k s = suc s ^ (k * T)

-- 13: "k below 1, s not 1..64, or more than 1,000,000 allotments"
abbrev pub benched : ℕ → ℕ → ℕ → Bool
benched T k s = both (leb 1 k) (both (both (leb 1 s) (leb s most_steps)) (leb (allotments T k s) most_allotments))

-- the first number that passes, of n from i on
abbrev pub first_from : (ℕ → Bool) → ℕ → ℕ → Maybe ℕ
first_from test i zero = nothing
first_from test i (suc n) = elim (test i) [ true ↦ is i | false ↦ first_from test (suc i) n ]

-- an answer, and the lent buffer after the call
pub record Outcome : Type 0 where
  pub answer : BenchAnswer
  pub cells : List ℕ

-- no allotment: found, number and counts are 0
abbrev pub without : ℕ → BenchAnswer
without n = record { number = n; found = false; allotment = 0; counts = replicate places 0 }

-- an allotment and its number
abbrev pub found_at : ℕ → List ℕ → BenchAnswer
found_at i cs = record { number = 0; found = true; allotment = i; counts = over cs (replicate places 0) }

module _ (p : Program Plain) (k s : ℕ) where
  -- the counts of allotment i
  abbrev pub counts_at : ℕ → List ℕ
  counts_at i = counts (suc s) (k * length p.mains) i

  -- its run
  abbrev pub run_at : ℕ → P.Ran
  run_at i = run_of p (counts_at i)

  -- does it block
  abbrev pub blocks_at : ℕ → Bool
  blocks_at i = blocks (run_at i).how

  -- "The cell buffer keeps the last run's cells": of the allotment found, or of the last one
  abbrev pub searched : List ℕ → Maybe ℕ → Outcome
  searched cs (is i) = record { answer = found_at i (counts_at i); cells = over (cells (run_at i).state.memory) cs }
  searched cs nothing =
      record { answer = without 0; cells = over (cells (run_at (allotments (length p.mains) k s - 1)).state.memory) cs }

  -- "stops at the first allotment whose run of the concurrent program blocks"
  abbrev pub search : List ℕ → Outcome
  search cs = searched cs (first_from blocks_at 0 (allotments (length p.mains) k s))

-- "A refusal returns its number and zeros and writes nothing"
abbrev pub untouched : ℕ → List ℕ → Outcome
untouched n cs = record { answer = without n; cells = cs }

-- the refusals of the bench, in their order
abbrev pub bench_as : ℕ → ℕ → List ℕ → Verdict → Outcome
bench_as k s cs (refused n) = untouched n cs
bench_as k s cs (accepted p) = elim (benched (length p.mains) k s) [
  | false ↦ untouched 13 cs
  | true ↦ elim (roomy p cs) [
    | false ↦ untouched 12 cs
    | true ↦ search p k s cs
  ]
]

-- the call, on table t, with k rounds, from 0 to s steps, and the lent buffer cs for cells
abbrev pub bench_call : List ℕ → ℕ → ℕ → List ℕ → Outcome
bench_call t k s cs = bench_as k s cs (verdict concurrent t)
