-- The paper's answer, from the costs of a label, if there is one, or the reason why its table is refused.
use Rattle.std.specs.Prelude.{Option, Some, None, Result, Ok, Err}
use Rattle.basics.specs.Refusals.{refusal_number}
use Rattle.basics.specs.declared.refusals.Refusal.{Refusal}
use Rattle.agreement.specs.declared.PricesAnswer.{PricesAnswer}
use Rattle.prices.specs.declared.costs.Cost.{Cost}

-- of a label that there is
abbrev pub answer_with : Cost → PricesAnswer
answer_with c = record { refusal = 0; least = c.least; most = c.most }

-- "A refusal returns its number and zeros", and so does a label that there is not
abbrev pub answer_of : Result (Option Cost) Refusal → PricesAnswer
answer_of (Ok (Some c)) = answer_with c
answer_of (Ok None) = record { refusal = 0; least = 0; most = 0 }
answer_of (Err why) = record { refusal = refusal_number why; least = 0; most = 0 }
