-- One law for each way through the reader of the run program's input.
use Prim.Native.Nat.{ℕ, ◌-◌, ◌≤◌, ◌<◌, min}
use native.Mathlib.Omega.{arith}
use native.Mathlib.Decide.{dec_le}
use mathlib.Core.Path.{◌≡◌, sym, ap, ◌∙◌}
use mathlib.Core.List.{List}
use lib.ListN.{length, take, drop, length-drop, drop_of_length-le}
use lib.Seq.{take_all}
use borrow.Author.Tests.{lt-ltb, le-ltb}
use Rattle.value.specs.Values.{unbytes}
use Rattle.basics.specs.Places.{number_at}
use Rattle.basics.specs.Laws.Places.{number_at_lem}
use Rattle.translation.specs.declared.Mode.TheVariants.{Own}
use Rattle.agreement.specs.declared.Figures.{Figures}
use Rattle.agreement.specs.Figures.{refusal, figures_call}
use Rattle.agreement.specs.Line.{schedule_of, table_of, told, line, printed, lined, max_input}

-- ---- a place in a list, or its end

-- what follows it
cut_drop : {A : Type 0} (k i : ℕ) (l : List A) → k ≡ min i (length l) → drop k l ≡ drop i l
cut_drop k i l e = elim (dec_le i (length l)) [
  | yes h ↦ let same : k ≡ i = omega arith in rw same
  | no h ↦ drop_of_length-le l {i = k} (omega arith) ∙ sym (drop_of_length-le l {i = i} (omega arith))
]

-- what stands before it
cut_take : {A : Type 0} (k i : ℕ) (l : List A) → k ≡ min i (length l) → take k l ≡ take i l
cut_take k i l e = elim (dec_le i (length l)) [
  | yes h ↦ let same : k ≡ i = omega arith in rw same
  | no h ↦ take_all k l (omega arith) ∙ sym (take_all i l (omega arith))
]

-- ---- the input

module _ (input : List ℕ) {r : Figures} where
  -- "an input over 20,482 bytes is answered 2"
  pub input_large : max_input < length input → r ≡ refusal 2 → r ≡ told input
  unfolding told
  input_large h e = e ∙ rw (lt-ltb max_input (length input) h)

  -- two bytes, then the rest, whose first n are the schedule
  pub input_split : {k n mid : ℕ} {rest schedule table : List ℕ} → length input ≤ max_input → k ≡ min (length input) 2
      → rest ≡ take (length input - k) (drop k input) → n ≡ number_at 2 input 0 → mid ≡ min n (length rest)
      → schedule ≡ take mid rest → table ≡ drop mid rest → r ≡ figures_call Own table schedule → r ≡ told input
  unfolding told
  input_split {k} {n} {mid} {rest} {schedule} {table} h start remains number cut first second e =
      let two : n ≡ unbytes (take 2 input) = number ∙ number_at_lem 2 input 0 in
      let behind : rest ≡ drop 2 input
      = remains ∙ take_all (length input - k) (drop k input) (simp length-drop (omega arith)) ∙ cut_drop k 2 input (omega arith) in
      let after : table ≡ table_of input
      = second ∙ cut_drop mid n rest cut ∙ ap (λ x. drop n x) behind ∙ ap (λ m. drop m (drop 2 input)) two in
      let before : schedule ≡ schedule_of input
      = first ∙ cut_take mid n rest cut ∙ ap (λ x. take n x) behind ∙ ap (λ m. take m (drop 2 input)) two in
      e ∙ rw (after, before, le-ltb max_input (length input) h)

-- the figures of an input, then their line
pub input_lined : (input o : List ℕ) {f : Figures} {o' : List ℕ} {n : ℕ} → f ≡ told input → record { count = n; out = o' } ≡ lined (line f) o
    → record { count = n; out = o' } ≡ lined (printed input) o
input_lined input o e l = l ∙ ap (λ g. lined (line g) o) e
