-- A value that the code holds is in the range of its type.
use mathlib.Core.List.{List}
use denote.Laws.{Is}
use denote.Enum.Declared.{row}
use denote.Enum.Laws.{owed}
use mir.Val.{Val}
use Rattle.value.specs.contracts.Value.{the_type}
use Rattle.value.proofs.Value.TheLaws.{the_laws}
use Rattle.value.specs.declared.Value.{Value}
use Rattle.value.specs.declared.Value.TheVariants.{Whole, Location, Truth}
use Rattle.basics.specs.Laws.Places.{Held}

-- what owning it tells
pub value_held : (v : Value) (vs : List Val) → Is (row the_type) v vs → Held v
value_held (Whole z) vs p = (owed the_type the_laws (Whole z) vs p).0.1
value_held (Location l) vs p = (owed the_type the_laws (Location l) vs p).0.1
value_held (Truth b) vs p = tt
