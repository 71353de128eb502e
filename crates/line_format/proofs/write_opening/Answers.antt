-- `line_format::write_opening` meets its contract: the header, the kind right behind it, and the gate. Assumes nothing.
use Rattle.line_output.proofs.Text.{then}
use Rattle.line_format.specs.Line.{opening, header}
use Rattle.line_format.proofs.write_opening.Goals as goal

pub returns : goal.returns
unfolding opening header
returns c = then (then c.write_text.ensures c.write_kind.ensures) c.write_gate.ensures
