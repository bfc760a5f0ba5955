-- The numbers of refusal: document 01's table, and requests #103 (13), #106 (1 for a text that is not ours) and #108 (14, 15).
use Rattle.std.specs.Prelude.{ℕ}
use Rattle.basics.specs.declared.refusals.Refusal.{Refusal}
use Rattle.basics.specs.declared.refusals.Refusal.TheVariants.{Trailer, Counts, Records, Bodies, Names, Labels, Cycle, Unset, TooLong, NoRoom}
use Rattle.basics.specs.declared.refusals.Refusal.TheVariants.{Schedule, NoCells, Allotments, NoChoice, Choices, NotOurs}

-- "The smallest number that applies is answered"
abbrev pub refusal_number : Refusal → ℕ
refusal_number Trailer = 1
refusal_number Counts = 2
refusal_number Records = 3
refusal_number Bodies = 4
refusal_number Names = 5
refusal_number Labels = 6
refusal_number Cycle = 7
refusal_number Unset = 8
refusal_number TooLong = 9
refusal_number NoRoom = 10
refusal_number Schedule = 11
refusal_number NoCells = 12
refusal_number Allotments = 13
refusal_number NoChoice = 14
refusal_number Choices = 15
refusal_number NotOurs = 1
