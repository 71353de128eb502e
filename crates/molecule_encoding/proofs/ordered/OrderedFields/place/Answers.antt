-- `molecule_encoding::OrderedFields::place` meets its contract: what is left behind the field, and its value, say where it is. Assumes nothing.
use mathlib.Core.Path.{sym, ap, ◌∙◌}
use Rattle.molecule_encoding.specs.Parts.{found_in}
use Rattle.molecule_encoding.proofs.Places.{value_room, span_is}
use Rattle.molecule_encoding.proofs.ordered.OrderedFields.place.Goals as goal

pub overflow_sub-result : goal.overflow_sub-result
overflow_sub-result c = value_room _ _ (sym (ap found_in c.in_ok-f.was) ∙ c.find.ensures)

pub returns : goal.returns
returns c = span_is _ _ (sym (ap found_in c.in_ok-f.was) ∙ c.find.ensures)
