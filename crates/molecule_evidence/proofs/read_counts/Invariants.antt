-- What the loop keeps.
use Rattle.lists.proofs.Output.{Copying}
use Rattle.molecule_evidence.specs.Evidence.{counts_of}
use Rattle.molecule_evidence.proofs.read_counts.Given as goal

abbrev pub invariant-loop-i : goal.invariant-loop-i
invariant-loop-i l = Copying l.n (counts_of l.offset l.bytes) l.initial.counts l.i l.counts
