-- What the loop keeps.
use Rattle.lists.proofs.Output.{Copying}
use Rattle.molecule_evidence.specs.Evidence.{marks_of}
use Rattle.molecule_evidence.proofs.read_marks.Given as goal

abbrev pub invariant-loop-i : goal.invariant-loop-i
invariant-loop-i l = Copying l.n (marks_of l.bytes) l.initial.marks l.i l.marks
