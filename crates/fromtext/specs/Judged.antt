-- What is promised of a table t that may be the one whose text is x.
use Rattle.std.specs.Prelude.{◌≡◌, List, ℕ, Result}
use Rattle.basics.specs.declared.refusals.Refusal.{Refusal}
use Rattle.answers.specs.Answers.{answer_of}
use Rattle.translation.specs.Calls.{Written, refusal, writes}
use Rattle.ctext.proofs.Laws.Reads.{TextOf}

-- it is written if it is, and otherwise nothing is
pub record Judges (x t o o' : List ℕ) (r : Result ℕ Refusal) : Type 0 where
  pub yes : TextOf t x → ◌≡◌ {A = Written} (record { answer = answer_of r; out = o' }) (writes t o)
  pub no : (TextOf t x → ⊥) → ◌≡◌ {A = Written} (record { answer = answer_of r; out = o' }) (record { answer = refusal 1; out = o })
