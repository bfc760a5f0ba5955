-- `figures::input::figures_of_input` meets its contract.
use Rattle.std.proofs.Common.{refl, ap, ◌∙◌}
use Rattle.agreement.specs.Figures.{refusal}
use Rattle.figures.proofs.Inputs.{input_large, input_split}
use Rattle.figures.proofs.input.figures_of_input.Goals as goal

-- the input is too long
pub returns-then-input-gt-LONGEST_INPUT : goal.returns-then-input-gt-LONGEST_INPUT
returns-then-input-gt-LONGEST_INPUT c =
    input_large c.args.input.now c.if-input-gt-LONGEST_INPUT.true (c.refused.ensures ∙ ap refusal c.number.ensures)

-- it is split
pub returns : goal.returns
returns c =
    input_split c.args.input.now c.if-input-gt-LONGEST_INPUT.false c.min.ensures refl (c.from-entries.ensures ∙ c.two_bytes.ensures)
    c.min-2.ensures c.split_at.ensures.front c.split_at.ensures.back c.figures.ensures
