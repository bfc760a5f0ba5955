-- The paper's answer, from the length written or the reason why nothing was.
use Rattle.std.specs.Prelude.{ℕ, Result, Ok, Err}
use Rattle.basics.specs.declared.refusals.Refusal.{Refusal}
use Rattle.basics.specs.Refusals.{refusal_number}
use Rattle.translation.specs.declared.WriteAnswer.{WriteAnswer}
use Rattle.translation.specs.Calls.{refusal, written}

-- "A refusal returns its number and zeros"; "An accepted translation writes its length of bytes and no more"
abbrev pub answer_of : Result ℕ Refusal → WriteAnswer
answer_of (Ok n) = written n
answer_of (Err why) = refusal (refusal_number why)
