-- `molecule_encoding::OrderedFields::reads_place` meets its contract: what is left behind the marker says where it is. Assumes nothing.
use mathlib.Core.Path.{sym, ap, ◌∙◌}
use Rattle.molecule_encoding.specs.Parts.{found_in}
use Rattle.molecule_encoding.proofs.Places.{after_is}
use Rattle.molecule_encoding.proofs.ordered.OrderedFields.reads_place.Goals as goal

pub returns : goal.returns
returns c = after_is _ _ (sym (ap found_in c.in_ok-marker.was) ∙ c.find.ensures)
