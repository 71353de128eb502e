-- `line_output::print_bytes` meets its contract: its loop fills the front of the output. Assumes nothing.
use mathlib.Core.Path.{◌∙◌}
use Rattle.lists.proofs.Output.{begin_copy, next_copy}
use Rattle.line_output.specs.Text.{printed}
use Rattle.line_output.proofs.Text.{length_printed, printed_at}
use Rattle.line_output.proofs.print_bytes.Goals as goal

pub loop-i-init : goal.loop-i-init
loop-i-init c = begin_copy (printed _) _ (c.min-n.ensures ∙ rw length_printed)

pub loop-i-preserved : goal.loop-i-preserved
loop-i-preserved c =
    rw (c.visible_byte.ensures ∙ printed_at c.args.bytes.now c.loop-i.i) (next_copy 63 c.loop-i.invariant c.loop-i-test.true)
