-- `molecule_encoding::OrderedFields::value` meets its contract: the value of what is found. Assumes nothing.
use mathlib.Core.Path.{sym, ap, ◌∙◌}
use Rattle.molecule_encoding.specs.Parts.{found_in}
use Rattle.molecule_encoding.proofs.Values.{value_found}
use Rattle.molecule_encoding.proofs.ordered.OrderedFields.value.Goals as goal

pub returns-in_err-f : goal.returns-in_err-f
returns-in_err-f c = rw c.from_residual.ensures (value_found _ _ (sym (ap found_in c.in_err-f.was) ∙ c.find.ensures))

pub returns : goal.returns
returns c = value_found _ _ (sym (ap found_in c.in_ok-f.was) ∙ c.find.ensures)
