-- What is promised of places and numbers in a text.
use Rattle.std.specs.Prelude.{ℕ, ◌+◌, ◌^◌, ◌≤◌, ◌<◌, ◌≡◌, List, length}
use Rattle.format.proofs.Laws.Stands.{Stands}
use Rattle.ctext.specs.Pieces.{decimal}
use Rattle.ctext.proofs.Laws.Numbers.{Stops}
use Rattle.retable.specs.declared.pieces.Numbered.{Numbered}

-- n bytes further, inside the text
pub record Skips (x : List ℕ) (i n r : ℕ) : Type 0 where
  pub to : i + n ≤ length x → r ≡ i + n

-- whatever number stands at i is read
pub record ReadsNumber (x : List ℕ) (i : ℕ) (r : Numbered) : Type 0 where
  pub is : (n j : ℕ) → Stands x i (decimal n) j → Stops x j → n < 10 ^ 10 → r.number ≡ n
  pub ends : (n j : ℕ) → Stands x i (decimal n) j → Stops x j → n < 10 ^ 10 → r.next ≡ j
