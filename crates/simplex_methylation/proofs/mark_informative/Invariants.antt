-- What the loop keeps.
use Rattle.lists.proofs.Output.{Filling}
use Rattle.simplex_methylation.specs.Simplex.{marks_of}
use Rattle.simplex_methylation.proofs.mark_informative.Given as goal

abbrev pub invariant-loop-i : goal.invariant-loop-i
invariant-loop-i l = Filling l.consensus_len (marks_of l.letter l.reference l.consensus_len) l.initial.marks_out l.i l.marks_out
