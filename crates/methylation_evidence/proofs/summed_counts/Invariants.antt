-- What the loop keeps.
use Rattle.lists.proofs.Output.{Filling}
use Rattle.methylation_evidence.specs.Counts.{summed_counts}
use Rattle.methylation_evidence.proofs.summed_counts.Given as goal

abbrev pub invariant-loop-i : goal.invariant-loop-i
invariant-loop-i l = Filling l.positions (summed_counts l.positions l.a l.b) l.initial.out l.i l.out
