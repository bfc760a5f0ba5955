-- How many allotments there are, and the counts of one, as the code says them.
use Rattle.std.specs.Prelude.{ℕ, suc, ◌≤◌, ◌≡◌, List, ◌++◌, true, false, length, drop, Option, Some, None}
use Rattle.basics.specs.Sizes.{most_threads}
use Rattle.allotments.specs.Allotments.{counts}
use Rattle.allotments.specs.Bench.{most_steps, most_allotments, places, allotments, benched}

-- a base: one more than from 1 to 64 steps
pub record Based (b : ℕ) : Type 0 where
  pub some : 2 ≤ b
  pub few : b ≤ suc most_steps

-- "T not 1..32"
pub record Threads (T : ℕ) : Type 0 where
  pub some : 1 ≤ T
  pub few : T ≤ most_threads

-- what numbers that are not refused are worth
pub record Benched (T k s : ℕ) : Type 0 where
  pub tested : benched T k s ≡ true
  pub rounds : k ≤ places
  pub steps : s ≤ most_steps
  pub some : 1 ≤ s
  pub few : allotments T k s ≤ most_allotments

-- the number of allotments; none if k rounds of 0 to s steps are refused
pub record SaysAllotments (T k s : ℕ) (r : Option ℕ) : Type 0 where
  pub none : r ≡ None → benched T k s ≡ false
  pub some : (n : ℕ) → r ≡ Some n → (n ≡ allotments T k s) × Benched T k s

-- a base, and room for n counts
pub record Filling (b n : ℕ) (cs : List ℕ) : Type 0 where
  pub based : Based b
  pub few : n ≤ places
  pub long : length cs ≡ places

-- the counts of allotment i stand first, and the others are as they were
pub record Fills (i b n : ℕ) (cs cs' : List ℕ) : Type 0 where
  pub filled : cs' ≡ counts b n i ++ drop n cs
