-- An answer without a value has the reason that it is asked for.
use Rattle.std.specs.Prelude.{◌≡◌, refl, Result, Err}
use Rattle.value.specs.Try.{lacks}
use Rattle.value.specs.Values.{given}
use Rattle.value.specs.declared.Reason.{Reason}
use Rattle.value.specs.declared.Value.{Value}

-- it lacks for that reason
pub none_lacks : (r : Reason) → given (Err r) ≡ lacks r
none_lacks r = refl
