-- `line_output::Writer::write_item` meets its contract: the comma, and the number right behind it. Assumes nothing.
use Rattle.line_output.proofs.Text.{then, item_later}
use Rattle.line_output.proofs.Writer.write_item.Goals as goal
use Rattle.line_output.proofs.Writer.write_item.Goals.{then-place-ne0, else-place-ne0}

pub returns : goal.returns
returns c = elim c.if-place-ne0.branch [
  | then-place-ne0 w ↦ rw (item_later _ _ w.if-place-ne0.true) (then w.write_text.ensures (rw w.self-is at c.write_number.ensures))
  | else-place-ne0 w ↦ rw w.if-place-ne0.false (rw w.self-is at c.write_number.ensures)
]
