-- What the step at a label costs the copy, from the program alone: document 01's price list, read for a label. The price of an atomic block depends
-- on the way through its inner ifs: the least and the most over all ways.
use Rattle.std.specs.Prelude.{ℕ, zero, suc, ◌+◌, min, max, List, [], ◌∷◌, ◌++◌}
use Rattle.value.specs.Maybe.{Maybe, is, nothing}
use Rattle.value.specs.Lists.{at}
use Rattle.format.specs.Syntax.{Instr, assign, write, read, while, if, call, atomic, select, Block, end, step, Proc, Program, Plain, concurrent}
use Rattle.format.specs.Labels.{labelled}
use Rattle.format.specs.Rules.{Verdict, refused, accepted, verdict}
use Rattle.agreement.specs.declared.PricesAnswer.{PricesAnswer}
use Rattle.agreement.specs.Price.{inner, instr_price}

-- the least and the most that something costs
pub record Prices : Type 0 where
  pub least : ℕ
  pub most : ℕ

-- the same in any case
abbrev pub only : ℕ → Prices
only x = record { least = x; most = x }

-- one thing and then another
abbrev pub then : Prices → Prices → Prices
then a b = record { least = a.least + b.least; most = a.most + b.most }

-- one thing or another
abbrev pub or : Prices → Prices → Prices
or a b = record { least = min a.least b.least; most = max a.most b.most }

-- in a procedure of n locals; no price of the list asks for a thread, a label, a procedure or values, but what an atomic block runs
module _ (n : ℕ) where
  -- by the list, inside an atomic block
  abbrev pub in_place : Instr ℕ → Prices
  in_place i = only (inner [] 0 0 0 n i)

  -- by the list
  abbrev pub listed : Instr ℕ → Prices
  listed i = only (instr_price [] 0 0 0 n [] [] i)

  abbrev mutual
    -- "2k+1 and the branch taken"
    pub inside_i : Instr ℕ → Prices
    inside_i (assign x e) = in_place (assign x e)
    inside_i (write y o e) = in_place (write y o e)
    inside_i (read x y o) = in_place (read x y o)
    inside_i (while e b) = in_place (while e b)
    inside_i (if e b c) = then (in_place (if e b c)) (or (inside b) (inside c))
    inside_i (call m es) = in_place (call m es)
    inside_i (atomic b) = in_place (atomic b)
    inside_i (select x y) = in_place (select x y)

    -- of a block: "inner prices"
    pub inside : Block ℕ → Prices
    inside end = only 0
    inside (step a i b) = then (inside_i i) (inside b)

  -- of an instruction that has a label; atomic: "inner prices .. + 2"
  abbrev pub step_prices : Instr ℕ → Prices
  step_prices (assign x e) = listed (assign x e)
  step_prices (write y o e) = listed (write y o e)
  step_prices (read x y o) = listed (read x y o)
  step_prices (while e b) = listed (while e b)
  step_prices (if e b c) = listed (if e b c)
  step_prices (call m es) = listed (call m es)
  step_prices (atomic b) = then (inside b) (only 2)
  step_prices (select x y) = listed (select x y)

  abbrev mutual
    -- of the labels that an instruction holds
    pub held : Instr ℕ → List Prices
    held (assign x e) = []
    held (write y o e) = []
    held (read x y o) = []
    held (while e b) = each b
    held (if e b c) = each b ++ each c
    held (call m es) = []
    held (atomic b) = []
    held (select x y) = []

    -- of a block's labels: "instructions in textual order, those inside an atomic block having none"
    pub each : Block ℕ → List Prices
    each end = []
    each (step l i b) = step_prices i ∷ held i ++ each b

-- "Procedures in order; in each, .. then one end label", which costs 4
abbrev pub all : List (Proc ℕ) → List Prices
all [] = []
all (p ∷ ps) = each p.locals p.body ++ (only 4 ∷ all ps)

-- of label l: "Count from 1; 0 is a finished thread"
abbrev pub prices_at : Program Plain → ℕ → Maybe Prices
prices_at p zero = nothing
prices_at p (suc l) = at (all (labelled p).procs) l

-- "0 and 0 for a label that there is not"
abbrev pub answered : ℕ → Maybe Prices → PricesAnswer
answered n nothing = record { refusal = n; least = 0; most = 0 }
answered n (is q) = record { refusal = n; least = q.least; most = q.most }

-- by the verdict on the table
abbrev pub prices_as : Verdict → ℕ → PricesAnswer
prices_as (refused n) l = answered n nothing
prices_as (accepted p) l = answered 0 (prices_at p l)

-- the call, on table t and label l
abbrev pub prices_call : List ℕ → ℕ → PricesAnswer
prices_call t l = prices_as (verdict concurrent t) l
