-- Values at work: a value is one word, its kind byte and its number as in a cell's five bytes. The word 0 holds no value.
use Rattle.std.specs.Prelude.{ℕ, ◌/◌, ◌%◌, ◌^◌}
use Rattle.value.specs.Maybe.{Maybe}
use Rattle.value.specs.Try.{Try, or_lacks}
use Rattle.basics.specs.Places.{value_of}
use Rattle.value.specs.declared.Value.{Value}
use Rattle.value.specs.declared.Reason.TheVariants.{WrongKind}

-- the value that a word holds: kind · 2 ^ 32 + number
unfoldable pub held : ℕ → Maybe Value
held w = value_of (w / 2 ^ 32 % 256) (w % 2 ^ 32)

-- the same, as an answer: a local that is not set lacks a value as `eval` says
abbrev pub value_in : ℕ → Try Value
value_in w = or_lacks WrongKind (held w)
