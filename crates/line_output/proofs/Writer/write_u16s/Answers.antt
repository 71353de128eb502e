-- `line_output::Writer::write_u16s` meets its contract: after i turns i of the numbers are written. Assumes nothing.
use native.Mathlib.Omega.{arith}
use Rattle.line_output.proofs.Text.{begin, turn}
use Rattle.line_output.proofs.Writer.write_u16s.Goals as goal

pub loop-i-init : goal.loop-i-init
loop-i-init c = begin 6 _ _

pub loop-i-preserved : goal.loop-i-preserved
loop-i-preserved c =
    let small = c.type_inv.numbers c.loop-i.i in
    turn 4 c.loop-i.invariant c.loop-i-test.true (rw c.from.ensures at c.write_item.ensures) (omega arith)
