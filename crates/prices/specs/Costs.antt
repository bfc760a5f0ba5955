-- What the functions over the price list promise: each is said of what stands at a position of a table that was accepted.
use Rattle.std.specs.Prelude.{ℕ, ◌+◌, ◌*◌, ◌≤◌, ◌<◌, ◌≡◌, List, true, length, get_or}
use Rattle.format.specs.Syntax.{Instr, Block, end, step, Program, Plain, concurrent}
use Rattle.format.specs.Encode.{table}
use Rattle.format.specs.Labels.{counts}
use Rattle.format.specs.Decode.{max_nesting}
use Rattle.format.specs.Rules.{Here, allowed, allowed_i, verdict, accepted, limits, max_labels, max_locals}
use Rattle.format.proofs.Laws.Sound.{Sound}
use Rattle.format.proofs.Laws.Procs.{body_in}
use Rattle.format.proofs.Laws.Grammar.{InstrAt, BlockAt}
use Rattle.agreement.specs.Prices.{Prices, only, inside, inside_i, step_prices}
use Rattle.prices.specs.declared.costs.Cost.{Cost}
use Rattle.prices.specs.declared.costs.Inside.{Inside}

-- inside an atomic block of procedure m
abbrev pub within : ℕ → Here
within m = record { kind = concurrent; proc = m; inside = true }

-- ---- something stands there, in a table that is not too long

-- an instruction of an atomic block
pub record InnerIn (t : List ℕ) (i d : ℕ) : Type 0 where
  pub instr : Instr ℕ
  pub next : ℕ
  pub there : InstrAt t i d instr next
  pub proc : ℕ
  pub may : allowed_i (within proc) instr ≡ true
  pub start : i < length t
  pub short : length t ≤ (limits concurrent).bytes

-- a block of one
pub record InsideIn (t : List ℕ) (i d : ℕ) : Type 0 where
  pub block : Block ℕ
  pub next : ℕ
  pub there : BlockAt t i d block next
  pub proc : ℕ
  pub may : allowed (within proc) block ≡ true
  pub start : i < length t
  pub deep : 1 ≤ d
  pub short : length t ≤ (limits concurrent).bytes

-- what remains at a label
pub record StepIn (t : List ℕ) (i : ℕ) : Type 0 where
  pub block : Block ℕ
  pub next : ℕ
  pub there : BlockAt t i max_nesting block next
  pub proc : ℕ
  pub may : allowed (body_in concurrent proc) block ≡ true
  pub start : i < length t
  pub short : length t ≤ (limits concurrent).bytes

-- ---- what it costs

-- these prices, and where it ends
abbrev pub costing : Prices → ℕ → Inside
costing q j = record { cost = record { least = q.least; most = q.most }; next = j }

-- assign, write and read
pub record CostsPlain (t : List ℕ) (i : ℕ) (r : Inside) : Type 0 where
  pub gives : (d m : ℕ) (a : Instr ℕ) (j : ℕ) → InstrAt t i d a j → allowed_i (within m) a ≡ true → (get_or t i 0 ≡ 0x24 → ⊥)
      → r ≡ costing (inside_i max_locals a) j
  pub few : r.cost.least ≤ 67

-- an instruction; its price is at most twice its bytes
pub record CostsInner (t : List ℕ) (i d : ℕ) (r : Inside) : Type 0 where
  pub gives : (m : ℕ) (a : Instr ℕ) (j : ℕ) → InstrAt t i d a j → allowed_i (within m) a ≡ true → r ≡ costing (inside_i max_locals a) j
  pub order : r.cost.least ≤ r.cost.most
  pub room : 2 * i + r.cost.most ≤ 2 * r.next
  pub fits : r.next ≤ length t
  pub onward : i < r.next

-- a block
pub record CostsInside (t : List ℕ) (i d : ℕ) (r : Inside) : Type 0 where
  pub gives : (m : ℕ) (b : Block ℕ) (j : ℕ) → BlockAt t i d b j → allowed (within m) b ≡ true → r ≡ costing (inside max_locals b) j
  pub order : r.cost.least ≤ r.cost.most
  pub room : 2 * i + r.cost.most ≤ 2 * r.next
  pub fits : r.next ≤ length t

-- what is walked from k on, after prices of lo to hi, is walked from i on
pub record Walking (t : List ℕ) (i d k lo hi : ℕ) : Type 0 where
  pub rest : InsideIn t k d
  pub inside : k < length t
  pub short : length t ≤ (limits concurrent).bytes
  pub order : lo ≤ hi
  pub room : 2 * i + hi ≤ 2 * k
  pub back : (r : Inside) → CostsInside t k d r → CostsInside t i d (record { cost = record { least = lo + r.cost.least; most = hi + r.cost.most }; next = r.next })

-- ---- what a step costs

-- by what remains at its label; "end label .. 4"
abbrev pub code_prices : ℕ → Block ℕ → Prices
code_prices n end = only 4
code_prices n (step a i c) = step_prices n i

-- the step of what stands at i
pub record CostsStep (t : List ℕ) (i : ℕ) (r : Cost) : Type 0 where
  pub gives : (m : ℕ) (b : Block ℕ) (j : ℕ) → BlockAt t i max_nesting b j → allowed (body_in concurrent m) b ≡ true
      → r ≡ record { least = (code_prices max_locals b).least; most = (code_prices max_locals b).most }

-- ---- a label of an accepted table

-- t is the table of an accepted program with c procedures, and l one of its labels
pub record LabelIn (t : List ℕ) (c l : ℕ) : Type 0 where
  pub program : Program Plain
  pub verdict : verdict concurrent t ≡ accepted program
  pub same : t ≡ table concurrent program
  pub sound : Sound concurrent program
  pub procs : c ≡ length program.procs
  pub low : 1 ≤ l
  pub high : l ≤ counts program.procs
  pub few : l ≤ max_labels
