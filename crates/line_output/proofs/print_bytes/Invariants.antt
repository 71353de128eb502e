-- What the loop keeps.
use Rattle.lists.proofs.Output.{Copying}
use Rattle.line_output.specs.Text.{printed}
use Rattle.line_output.proofs.print_bytes.Given as goal

abbrev pub invariant-loop-i : goal.invariant-loop-i
invariant-loop-i l = Copying l.n (printed l.bytes) l.initial.out l.i l.out
