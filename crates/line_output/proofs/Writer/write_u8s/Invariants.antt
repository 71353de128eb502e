-- What the loop keeps.
use Rattle.line_output.proofs.Text.{Listing}
use Rattle.line_output.proofs.Writer.write_u8s.Given as goal

abbrev pub invariant-loop-i : goal.invariant-loop-i
invariant-loop-i l = Listing 4 l.numbers l.initial.self l.i l.self
